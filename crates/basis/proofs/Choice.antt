-- What holds of both arms holds of a choice.
use mathlib.Core.Path.{◌≡◌, refl}
use mathlib.Core.Bool.{Bool, true, false}
use Rattle.basis.specs.Choice.{choose}

pub either : {A : Type 0} (P : A → Type 0) (b : Bool) {x y : A} → P x → P y → P (choose b x y)
unfolding choose
either P true p q = p
either P false p q = q

-- with what the test says
pub by : {A : Type 0} (P : A → Type 0) (b : Bool) {x y : A} → (b ≡ true → P x) → (b ≡ false → P y) → P (choose b x y)
unfolding choose
by P true p q = p refl
by P false p q = q refl

-- of two choices by one test
pub beside : {A B : Type 0} (P : A → B → Type 0) (b : Bool) {x y : A} {u v : B} → P x u → P y v → P (choose b x y) (choose b u v)
unfolding choose
beside P true p q = p
beside P false p q = q

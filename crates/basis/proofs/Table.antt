-- What a table says of a number.
use Prim.Native.Nat.{ℕ}
use mathlib.Core.Path.{◌≡◌, refl}
use mathlib.Core.Bool.{Bool, true, ◌&&◌}
use mathlib.Core.List.{List, [], ◌∷◌, map, reverse, reverse_aux}
use lib.Dec.{eqb}
use borrow.Author.Tests.{ne_eqb, eqb-true}
use Rattle.basis.specs.Choice.{choose}
use Rattle.basis.specs.Table.{Row, among}
use Rattle.basis.proofs.Choice.{either, by, beside}
use Rattle.basis.proofs.Tests.{both}

-- x is the number of none of the rows; the last row first, as a `match` leaves it to its `_`
abbrev pub Absent : {A : Type 0} → ℕ → List (Row A) → Type 0
Absent x [] = Unit {0}
Absent x (r ∷ rs) = Absent x rs × (x ≡ r.key → ⊥)

behind : {A : Type 0} (x : ℕ) (other : A) (rows before : List (Row A)) → Absent x (reverse_aux rows before) → Absent x before × (among x other rows ≡ other)
unfolding choose
behind x other [] before h = (h, refl)
behind x other (r ∷ rs) before h = let g = behind x other rs (r ∷ before) h in (g.0.0, rw (ne_eqb x r.key g.0.1) g.1)

-- then the table says nothing of it
pub missed : {A : Type 0} (x : ℕ) (other : A) (rows : List (Row A)) → Absent x (reverse rows) → among x other rows ≡ other
missed x other rows h = (behind x other rows [] h).1

-- a test that every row passes
abbrev pub all_rows : {A : Type 0} → (A → Bool) → List (Row A) → Bool
all_rows t [] = true
all_rows t (r ∷ rs) = t r.value && all_rows t rs

-- what every row passes, and what stands for a missing one, is passed by what the table says
pub passed : {A : Type 0} (t : A → Bool) (x : ℕ) (other : A) (rows : List (Row A)) → all_rows t rows ≡ true → t other ≡ true → t (among x other rows) ≡ true
passed t x other [] h q = q
passed t x other (r ∷ rs) h q =
    let p = both (t r.value) (all_rows t rs) h in
    either (λ (v : _). t v ≡ true) _ p.0 (passed t x other rs p.1 q)

-- what holds of each row where x is its number
abbrev pub EachRow : {A : Type 0} → (A → Type 0) → ℕ → List (Row A) → Type 0
EachRow P x [] = Unit {0}
EachRow P x (r ∷ rs) = (x ≡ r.key → P r.value) × EachRow P x rs

-- one row, and those behind it
infixr 40 ◌or◌
pub ◌or◌ : {A B : Type 0} → A → B → A × B
f or g = (f, g)

-- a number has its row, or what stands for a missing one: what holds of all these holds of what the table says
pub by_rows : {A : Type 0} (P : A → Type 0) (x : ℕ) (other : A) (rows : List (Row A)) → EachRow P x rows → P other → P (among x other rows)
by_rows P x other [] h q = q
by_rows P x other (r ∷ rs) h q = by P (eqb x r.key) (λ e. h.0 (eqb-true x r.key e)) (λ _. by_rows P x other rs h.1 q)

-- a table whose values are all altered alike
abbrev pub altered : {A B : Type 0} → (A → B) → List (Row A) → List (Row B)
altered f rows = map (λ (r : Row _). record { key = r.key; value = f r.value }) rows

pub altered-rows : {A B : Type 0} (f : A → B) (x : ℕ) (other : A) (rows : List (Row A)) → among x (f other) (altered f rows) ≡ f (among x other rows)
altered-rows f x other [] = refl
altered-rows f x other (r ∷ rs) = beside (λ (y : _) (z : _). y ≡ f z) (eqb x r.key) refl (altered-rows f x other rs)

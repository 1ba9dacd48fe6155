-- Values laid into their places.
use Prim.Native.Nat.{ℕ}
use mathlib.Core.Path.{◌≡◌, refl, ◌∙◌, ap}
use mathlib.Core.List.{List, [], ◌∷◌}
use lib.ListN.{length, get_or, set, length-set}
use lib.Seq.{set-get_or}
use Rattle.basis.specs.Table.{Row}
use Rattle.image.specs.Image.{with_values}

-- no byte is added or lost
pub values_length : (rows : List (Row ℕ)) (s : List ℕ) → length (with_values rows s) ≡ length s
values_length [] s = refl
values_length (r ∷ rows) s = values_length rows (set s r.key r.value) ∙ length-set s r.key r.value

-- each value is the one that stands there
abbrev pub Stand : List (Row ℕ) → List ℕ → Type 0
Stand [] s = Unit {0}
Stand (r ∷ rows) s = (r.value ≡ get_or s r.key 0) × Stand rows s

-- then nothing changes
pub unchanged : (rows : List (Row ℕ)) (s : List ℕ) → Stand rows s → with_values rows s ≡ s
unchanged [] s h = refl
unchanged (r ∷ rows) s h =
    let same : set s r.key r.value ≡ s = ap (set s r.key) h.0 ∙ set-get_or s r.key 0 in
    ap (with_values rows) same ∙ unchanged rows s h.1

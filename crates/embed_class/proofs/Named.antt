-- The addresses in images one behind the other.
use Prim.Native.Nat.{ℕ, zero, suc, ◌*◌, ◌/◌}
use native.Mathlib.Nat.{mul-div_left}
use lib.Dec.{lit<}
use mathlib.Core.Path.{◌≡◌, refl, sym, ◌∙◌, ap}
use mathlib.Core.List.{List, ◌∷◌, map}
use lib.ListN.{length, take, drop}
use Rattle.std.specs.Simd.{first_chunks}
use Rattle.wire.specs.declared.address.Address.{Address}
use Rattle.image.specs.Places.{LENGTH}
use Rattle.embed_class.specs.Row.{address_in, row_of, names_of}

-- cut image by image
pub named_chunks : (k : ℕ) (s : List ℕ) → map address_in (first_chunks LENGTH k s) ≡ names_of (row_of k s)
unfolding row_of names_of
named_chunks zero s = refl
named_chunks (suc k) s = ap (λ (rest : List Address). address_in (take LENGTH s) ∷ rest) (named_chunks k (drop LENGTH s))

pub many_chunks : (k : ℕ) (s : List ℕ) → length (first_chunks LENGTH k s) ≡ k
many_chunks zero s = refl
many_chunks (suc k) s = ap suc (many_chunks k (drop LENGTH s))

-- addresses that were taken from all of them are those of the row
module _ (count : ℕ) (s : List ℕ) (n : length s ≡ count * LENGTH) (each : List (List ℕ)) (e : each ≡ first_chunks LENGTH (length s / LENGTH) s) where
  whole : each ≡ first_chunks LENGTH count s
  whole = e ∙ ap (λ (k : ℕ). first_chunks LENGTH (k / LENGTH) s) n ∙ ap (λ (k : ℕ). first_chunks LENGTH k s) (mul-div_left count (lit< tt))

  as_many : length each ≡ count
  as_many = ap length whole ∙ many_chunks count s

  pub named : (names : List Address) → take (length each) names ≡ map address_in each → take count names ≡ names_of (row_of count s)
  named names h = ap (λ (k : ℕ). take k names) (sym as_many) ∙ h ∙ ap (map address_in) whole ∙ named_chunks count s

-- Where no two seats have one name, a name is one seat's.
use Prim.Native.Nat.{ℕ, ◌<◌, zero-le}
use mathlib.Core.Path.{◌≡◌, ap, ◌∙◌}
use mathlib.Core.Bool.{Bool, true, false}
use native.Mathlib.Omega.{arith}
use lib.Dec.{ltb}
use borrow.Author.Tests.{lt-ltb}
use Rattle.basis.specs.First.{first}
use Rattle.basis.proofs.First.{Told, at, nowhere, told, unique}
use Rattle.basis.proofs.Tests.{clash}
use Rattle.wire.specs.declared.address.Address.{Address}
use Rattle.wire.specs.Bytes.{equals}
use Rattle.row.specs.Row.{seat_named, is_taken, is_doubled}
use Rattle.row.proofs.Named.{same_address}

-- a test that holds first at no position below n holds at none
pub fails_below : (P : ℕ → Bool) (n : ℕ) → ltb (first P n) n ≡ false → (j : ℕ) → j < n → P j ≡ false
fails_below P n h j inside = go (first P n) h (told P n 0)
  where
    go : (k : ℕ) → ltb k n ≡ false → Told P n 0 k → P j ≡ false
    go k q (at x) = clash (lt-ltb k n (omega (arith, x.inside))) q
    go k q (nowhere x) = x.never j zero-le (omega (arith, inside))

module _ (name : ℕ → Address) (n : ℕ) (apart : is_doubled name n ≡ false) where
  other_before : (i j : ℕ) → j < i → i < n → equals (name i) (name j) ≡ false
  other_before i j before inside = fails_below (λ (k : ℕ). equals (name i) (name k)) i (fails_below (is_taken name) n apart i inside) j before

  -- seat i is the first with its name
  pub found_at : (i : ℕ) (a : Address) → i < n → equals a (name i) ≡ true → seat_named name n a ≡ i
  found_at i a inside h =
      unique (λ (k : ℕ). equals a (name k)) n 0 i
      (record {
        from = zero-le;
        inside = omega (arith, inside);
        holds = h;
        before = λ j z before. ap (λ (x : Address). equals x (name j)) (same_address a (name i) h) ∙ other_before i j before inside;
      })

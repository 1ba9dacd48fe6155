-- What a whole message's length is.
use Prim.Native.Nat.{ℕ, ◌≤◌}
use mathlib.Core.Path.{◌≡◌}
use mathlib.Core.Bool.{Bool, true, false}
use mathlib.Core.List.{List}
use native.Mathlib.Omega.{arith}
use lib.Dec.{eqb}
use lib.ListN.{length}
use borrow.Author.Tests.{eqb-true}
use Rattle.basis.specs.Choice.{choose}
use Rattle.wire.specs.Bytes.{is_extended, is_whole}

module _ (s : List ℕ) (h : is_whole s ≡ true) where
  pub enough : 9 ≤ length s
  unfolding choose
  enough = go (is_extended s) (eqb-true (length s) _ h)
    where
      go : (e : Bool) → length s ≡ choose e 23 9 → 9 ≤ length s
      go true p = omega arith
      go false p = omega arith

  -- its length tells whether it is extended
  pub by_length : is_extended s ≡ eqb (length s) 23
  unfolding choose
  by_length = go (is_extended s) (eqb-true (length s) _ h)
    where
      go : (e : Bool) → length s ≡ choose e 23 9 → e ≡ eqb (length s) 23
      go true p = rw p
      go false p = rw p

  pub nine : (length s ≡ 23 → ⊥) → length s ≡ 9
  unfolding choose
  nine short = go (is_extended s) (eqb-true (length s) _ h)
    where
      go : (e : Bool) → length s ≡ choose e 23 9 → length s ≡ 9
      go true p = absurd (short p)
      go false p = p

  -- and whether it has fourteen bytes more
  pub extended : 14 ≤ length s → length s ≡ 23
  unfolding choose
  extended many = go (is_extended s) (eqb-true (length s) _ h)
    where
      go : (e : Bool) → length s ≡ choose e 23 9 → length s ≡ 23
      go true p = p
      go false p = absurd (omega arith)

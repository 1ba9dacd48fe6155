-- Where records stand: within the memory, apart from each other, and alike in memories of one length.
use Prim.Native.Nat.{ℕ, ◌+◌, ◌≤◌, ◌<◌}
use mathlib.Core.Path.{◌≡◌, refl}
use mathlib.Core.Bool.{Bool, true, false}
use mathlib.Core.List.{List}
use mathlib.Core.Logic.{◌⊎◌, inl, inr}
use native.Mathlib.Omega.{arith}
use lib.Dec.{ltb}
use lib.ListN.{length}
use borrow.Author.Tests.{ltb-true, ltb-false}
use Rattle.links.specs.Record.{records, start_of}

module _ (l : List ℕ) where
  pub stands : (k : ℕ) → k < records l → start_of l k + 8 ≤ length l
  unfolding start_of
  stands k h = omega arith

  pub apart : (j k : ℕ) → (j ≡ k → ⊥) → j < records l → k < records l → (start_of l j + 8 ≤ start_of l k) ⊎ (start_of l k + 8 ≤ start_of l j)
  unfolding start_of
  apart j k other h g = go (ltb j k) refl
    where
      go : (t : Bool) → ltb j k ≡ t → (start_of l j + 8 ≤ start_of l k) ⊎ (start_of l k + 8 ≤ start_of l j)
      go true q = inl (omega (arith, ltb-true j k q))
      go false q = inr (omega (arith, ltb-false j k q))

pub as_long : (l m : List ℕ) (k : ℕ) → length l ≡ length m → start_of l k ≡ start_of m k
unfolding start_of
as_long l m k e = refl

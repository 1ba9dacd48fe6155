-- A number within its limits, or not.
use Prim.Native.Nat.{ℕ, ◌≤◌}
use mathlib.Core.Path.{◌≡◌, refl}
use mathlib.Core.Bool.{Bool, true, false}
use lib.Dec.{leb}
use borrow.Author.Tests.{leb-true}
use Rattle.basis.specs.Choice.{choose}
use Rattle.basis.specs.Numbers.{within}
use Rattle.basis.proofs.Tests.{both}
use Rattle.module.specs.declared.deed.Deed.{Deed}
use Rattle.module.specs.Deed.{limited}

pub by_limits : (P : Deed → Type 0) (a b n : ℕ) (deed : Deed) → (a ≤ n → n ≤ b → P (limited a b n deed)) → P Deed.Unlisted → P (limited a b n deed)
unfolding limited choose
by_limits P a b n deed f other = go (within a b n) refl
  where
    go : (t : Bool) → within a b n ≡ t → P (limited a b n deed)
    go true e = let p = both (leb a n) (leb n b) e in f (leb-true a n p.0) (leb-true n b p.1)
    go false e = rw e other

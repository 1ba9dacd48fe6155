-- The first end mark of those that are left is the first of all.
use Prim.Native.Nat.{◌≤◌, ◌-◌, ◌+◌}
use mathlib.Core.Path.{◌≡◌}
use Rattle.basis.specs.First.{first_from}
use Rattle.links.specs.Mark.{mark_at}
use Rattle.links.proofs.mark.count_to_mark.Given as goal

-- The first end mark of those that are left is the first of all.
abbrev pub invariant-loop-i : goal.invariant-loop-i
invariant-loop-i l = (l.i ≤ l.n) × (first_from (mark_at l.links) (l.n - l.i) (l.k + l.i) ≡ first_from (mark_at l.links) l.n l.k)

-- What is left to search from record i on stops where the whole search stops.
use Prim.Native.Nat.{◌≤◌, ◌-◌}
use mathlib.Core.Path.{◌≡◌}
use Rattle.basis.specs.First.{first_from}
use Rattle.links.specs.Search.{settles_at, stop_of}
use Rattle.links.proofs.search.walk.Given as goal

-- What is left to search from record i on stops where the whole search stops.
abbrev pub invariant-loop-i : goal.invariant-loop-i
invariant-loop-i l = (l.i ≤ l.n) × (first_from (settles_at l.links l.wanted) (l.n - l.i) l.i ≡ stop_of l.links l.wanted)

-- What is left to look at from place k on stops where the whole stops.
use Prim.Native.Nat.{◌-◌}
use mathlib.Core.Path.{◌≡◌}
use lib.ListN.{length}
use Rattle.basis.specs.First.{first_from}
use Rattle.modem.specs.Arrived.{stops_at, frame_start}
use Rattle.modem.proofs.arrived.frame_start.Given as goal

abbrev pub invariant-loop-k : goal.invariant-loop-k
invariant-loop-k l = first_from (stops_at l.s) (length l.s - l.k) l.k ≡ frame_start l.s

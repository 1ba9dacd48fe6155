-- What is taken up to a place, with the words from there on, gives all bytes.
use Prim.Native.Nat.{◌-◌}
use lib.ListN.{length}
use Rattle.roster.proofs.Taken.{Reached}
use Rattle.roster.proofs.bytes.bytes_behind.Given as goal

abbrev pub invariant-loop-at : goal.invariant-loop-at
invariant-loop-at l = Reached l.line l.from l.at l.bytes.items

abbrev pub decreases-loop-at : goal.decreases-loop-at
decreases-loop-at l = length l.line - l.at

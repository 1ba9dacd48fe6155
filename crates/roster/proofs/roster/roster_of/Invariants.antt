-- What is read up to a place, with the lines from there on, is the whole roster.
use Prim.Native.Nat.{◌-◌}
use lib.ListN.{length}
use Rattle.roster.proofs.Lines.{Read}
use Rattle.roster.proofs.roster.roster_of.Given as goal

-- What is read up to a place, with the lines from there on, is the whole roster.
abbrev pub invariant-loop-at : goal.invariant-loop-at
invariant-loop-at l = Read l.text l.at l.number l.r

abbrev pub decreases-loop-at : goal.decreases-loop-at
decreases-loop-at l = length l.text - l.at

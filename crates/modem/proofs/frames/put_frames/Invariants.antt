-- The frames of what is left of the reply, behind those that are laid, are all its frames.
use Prim.Native.Nat.{◌-◌}
use lib.ListN.{length}
use Rattle.modem.proofs.Laying.{Laying}
use Rattle.modem.proofs.frames.put_frames.Given as goal

abbrev pub invariant-loop-at : goal.invariant-loop-at
invariant-loop-at l = Laying l.reply l.initial.out l.at l.to l.out

abbrev pub decreases-loop-at : goal.decreases-loop-at
decreases-loop-at l = length l.reply - l.at

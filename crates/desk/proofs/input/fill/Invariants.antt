use Rattle.std.proofs.Common.{length, ◌-◌, ◌≤◌}
use Rattle.desk.proofs.input.fill.Given as goal

abbrev pub invariant-loop-n : goal.invariant-loop-n
invariant-loop-n l = l.n ≤ length l.memory

abbrev pub decreases-loop-n : goal.decreases-loop-n
decreases-loop-n l = length l.initial.memory - l.n

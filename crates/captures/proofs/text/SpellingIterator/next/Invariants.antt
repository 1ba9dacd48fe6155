use Rattle.std.proofs.Common.{length, ◌≤◌}
use Rattle.captures.proofs.text.SpellingIterator.next.Given as goal

abbrev pub invariant-loop-self : goal.invariant-loop-self
invariant-loop-self l = length l.self.0.now ≤ length l.initial.self.0.now

abbrev pub decreases-loop-self : goal.decreases-loop-self
decreases-loop-self l = length l.self.0.now

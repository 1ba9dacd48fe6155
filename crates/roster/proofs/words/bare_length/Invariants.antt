-- The first place of # or of the last 0D is sought.
use lib.ListN.{length}
use Rattle.roster.specs.Words.{stops_at}
use Rattle.roster.proofs.Places.{Sought}
use Rattle.roster.proofs.words.bare_length.Given as goal

abbrev pub invariant-loop-k : goal.invariant-loop-k
invariant-loop-k l = Sought (stops_at l.line) (length l.line) 0 l.k

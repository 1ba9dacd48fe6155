-- What a row answers: nothing for nobody, what one seat answered, or what all of them together come to.
use Rattle.std.specs.Prelude.{ℕ, eqb}
use Rattle.basis.specs.Choice.{choose}
use Rattle.results.specs.declared.Outcome.{Outcome}
use Rattle.results.specs.Number.{number_of}
use Rattle.row.specs.declared.outcome.ClassOutcome.{ClassOutcome}
use Rattle.row.specs.declared.progress.Whom.{Whom}
use Rattle.row.specs.declared.progress.ClassAnswer.{ClassAnswer}

-- nothing sent and no record read, for somebody and for nobody
abbrev pub silent_for : Whom → ClassOutcome → ClassAnswer
silent_for whom outcome = record { outcome = outcome; length = 0; read = 0; whom = whom }

abbrev pub silent : ClassOutcome → ClassAnswer
silent outcome = silent_for Whom.Nobody outcome

-- one seat alone
abbrev pub of_seat : ℕ → Outcome → ℕ → ℕ → ClassAnswer
of_seat seat outcome sent read = record { outcome = ClassOutcome.Single outcome; length = sent; read = read; whom = Whom.Seat seat }

-- one of all: done where any seat acted
abbrev pub joined : ClassOutcome → Outcome → ClassOutcome
joined before outcome = choose (eqb (number_of outcome) 0) (ClassOutcome.Single Outcome.Done) before

-- and what was read so far
abbrev pub and_seat : ClassAnswer → Outcome → ℕ → ClassAnswer
and_seat before outcome read = record { outcome = joined before.outcome outcome; length = 0; read = read; whom = before.whom }

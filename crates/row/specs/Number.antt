-- The paper's number of each outcome of the class; a single module has 0 to 8 of them (document 02, "One bench for a class").
use Rattle.std.specs.Prelude.{ℕ}
use Rattle.results.specs.Number.{number_of}
use Rattle.row.specs.declared.outcome.ClassOutcome.{ClassOutcome}

abbrev pub class_number_of : ClassOutcome → ℕ
class_number_of (ClassOutcome.Single outcome) = number_of outcome
class_number_of ClassOutcome.Doubled = 9
class_number_of ClassOutcome.NoSeat = 10
class_number_of ClassOutcome.Unfit = 11

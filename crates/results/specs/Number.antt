-- The paper's number of each outcome ("Result numbers").
use Rattle.std.specs.Prelude.{ℕ}
use Rattle.results.specs.declared.Outcome.{Outcome}

abbrev pub number_of : Outcome → ℕ
number_of Outcome.Done = 0
number_of Outcome.BadLength = 1
number_of Outcome.BadMemory = 2
number_of Outcome.Foreign = 3
number_of Outcome.BadSum = 4
number_of Outcome.NoRoom = 5
number_of Outcome.NotLinked = 6
number_of Outcome.Unlisted = 7
number_of Outcome.Unconcerned = 8

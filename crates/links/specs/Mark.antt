-- Records up to an end mark ("Link memory").
use Rattle.std.specs.Prelude.{ℕ, ◌+◌, ◌-◌, min, Bool, List}
use Rattle.basis.specs.First.{first_from}
use Rattle.links.specs.Record.{record_at, is_end_mark}

abbrev pub mark_at : List ℕ → ℕ → Bool
mark_at l k = is_end_mark (record_at l k)

-- of n records from k on, those before the first end mark, and the end mark
unfoldable pub up_to_mark : List ℕ → ℕ → ℕ → ℕ
up_to_mark l n k = min n (first_from (mark_at l) n k + 1 - k)

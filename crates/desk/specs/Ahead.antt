-- The next frame behind bytes that are done with.
use Rattle.std.specs.Prelude.{ℕ, ◌+◌, List, drop}
use Rattle.modem.specs.declared.arrived.Seen.{Seen}
use Rattle.modem.specs.Arrived.{seek_of}

-- n places further on
abbrev pub further : ℕ → Seen → Seen
further n (Seen.Whole k size) = Seen.Whole (n + k) size
further n (Seen.Waiting k) = Seen.Waiting (n + k)

-- behind the first n bytes, with its place counted from the start of all
abbrev pub seek_behind : ℕ → List ℕ → Seen
seek_behind n s = further n (seek_of (drop n s))

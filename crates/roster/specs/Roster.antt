-- The row of a class, line after line (document 02, "One bench for a class").
use Rattle.std.specs.Prelude.{ℕ, zero, suc, ◌+◌, ◌-◌, Bool, ◌&&◌, List, eqb, ltb, length, get_or, take, drop, set, replicate, Option, Some, None, Ok, Err}
use Rattle.basis.specs.Choice.{choose}
use Rattle.basis.specs.First.{first_from}
use Rattle.module.specs.declared.state.Module.{Module}
use Rattle.roster.specs.declared.word.Kind.{Kind}
use Rattle.roster.specs.declared.roster.Roster.{Roster}
use Rattle.roster.specs.Seat.{fresh_at}
use Rattle.roster.specs.Line.{Line, line_of}

-- the byte order mark that some editors write first
abbrev pub is_marked : List ℕ → Bool
is_marked s = (eqb (get_or s 0 0) 0xef && eqb (get_or s 1 0) 0xbb) && eqb (get_or s 2 0) 0xbf

unfoldable pub text_start : List ℕ → ℕ
text_start s = choose (is_marked s) 3 0

abbrev pub is_end : ℕ → Bool
is_end x = eqb x 0x0a

abbrev pub ends_at : List ℕ → ℕ → Bool
ends_at s k = is_end (get_or s k 0)

-- a line ends before 0A, or where the text does
unfoldable pub line_end : List ℕ → ℕ → ℕ
line_end s at = first_from (ends_at s) (length s - at) at

-- the next begins behind the 0A
unfoldable pub line_next : List ℕ → ℕ → ℕ
line_next s end = choose (ltb end (length s)) (end + 1) (length s)

abbrev pub line_at : List ℕ → ℕ → List ℕ
line_at s at = take (line_end s at - at) (drop at s)

-- who stands where no line names a module
abbrev pub nobody : Module
nobody = fresh_at Kind.Dimmer (record { high = 0; middle = 0; low = 0 })

-- sixteen places, and nobody in them
abbrev pub empty_roster : Roster
empty_roster = record { row = replicate 16 nobody; count = 0; bad = None }

unfoldable pub with_seat : List Module → ℕ → Module → List Module
with_seat row i m = choose (ltb i 16) (set row i m) row

-- the number of the first bad line
abbrev pub bad_after : Option ℕ → ℕ → Option ℕ
bad_after None number = Some number
bad_after (Some bad) number = Some bad

abbrev pub one_more : Roster → Module → Roster
one_more r m = record { row = with_seat r.row r.count m; count = r.count + 1; bad = r.bad }

abbrev pub refused : Roster → ℕ → Roster
refused r number = record { row = r.row; count = r.count; bad = bad_after r.bad number }

-- line `number` of the text: skipped, one more module, or bad
abbrev pub with_line : Roster → ℕ → Line → Roster
with_line r number (Ok None) = r
with_line r number (Ok (Some m)) = one_more r m
with_line r number (Err e) = refused r number

-- n lines or fewer, from a place on, behind so many lines of the text
unfoldable pub roster_from : ℕ → List ℕ → ℕ → ℕ → Roster → Roster
roster_from zero s at before r = r
roster_from (suc n) s at before r =
    let line : Line = line_of (line_at s at) in
    let next : ℕ = line_next s (line_end s at) in
    choose (ltb at (length s)) (roster_from n s next (before + 1) (with_line r (before + 1) line)) r

-- there are no more lines than bytes
abbrev pub roster_of : List ℕ → Roster
roster_of s = roster_from (length s) s (text_start s) 0 empty_roster

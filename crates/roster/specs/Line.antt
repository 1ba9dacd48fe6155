-- A line of the row: a kind, and three bytes or seven (document 02, "One bench for a class"); or nothing.
use Rattle.std.specs.Prelude.{ℕ, List, [], ◌∷◌, eqb, get_or, length, Option, Some, None, Result, Ok, Err}
use Rattle.basis.specs.Choice.{choose}
use Rattle.wire.specs.declared.address.Address.{Address}
use Rattle.module.specs.declared.state.Identity.{Identity}
use Rattle.module.specs.declared.state.Module.{Module}
use Rattle.roster.specs.declared.word.Kind.{Kind}
use Rattle.roster.specs.declared.line.BadLine.{BadLine}
use Rattle.roster.specs.Word.{small_letters, named}
use Rattle.roster.specs.Words.{words_of}
use Rattle.roster.specs.Bytes.{bytes_of}
use Rattle.roster.specs.Seat.{fresh_as, fresh_at}

-- what a line says: a module or none, or that it is bad
abbrev pub Line : Type 0
Line = Result (Option Module) BadLine

abbrev pub address_in : List ℕ → Address
address_in b = record { high = get_or b 0 0; middle = get_or b 1 0; low = get_or b 2 0 }

abbrev pub identity_in : List ℕ → Identity
identity_in b = record { address = address_in b; category = get_or b 3 0; subcategory = get_or b 4 0; firmware = get_or b 5 0; revision = get_or b 6 0 }

abbrev pub seat_of : Module → Line
seat_of m = Ok (Some m)

-- a line that is skipped, and one that is refused
abbrev pub empty_line : Line
empty_line = Ok None

abbrev pub bad_line : BadLine → Line
bad_line why = Err why

-- an address alone, with the rest as the bench has it; or all seven
unfoldable pub line_as : Kind → List ℕ → Line
line_as kind b =
    choose (eqb (length b) 3) (seat_of (fresh_at kind (address_in b)))
    (choose (eqb (length b) 7) (seat_of (fresh_as kind (identity_in b))) (bad_line BadLine.Bytes))

abbrev pub line_for : Option Kind → Option (List ℕ) → Line
line_for None b = bad_line BadLine.Kind
line_for (Some kind) None = bad_line BadLine.Bytes
line_for (Some kind) (Some b) = line_as kind b

-- the first word is the kind, in capital or small letters; the others are its bytes
unfoldable pub line_by : List (List ℕ) → Line
line_by [] = empty_line
line_by (w ∷ ws) = line_for (named (small_letters w)) (bytes_of ws)

unfoldable pub line_of : List ℕ → Line
line_of s = line_by (words_of s)

-- Commands to an outlet's sockets.
use Rattle.std.specs.Prelude.{ℕ, ◌+◌, ◌*◌, Bool, true, false, List, [], ◌∷◌, eqb}
use Rattle.basis.specs.Choice.{choose}
use Rattle.basis.specs.Table.{Row, among, ◌⇒◌}
use Rattle.wire.specs.declared.request.Request.{Request}
use Rattle.wire.specs.Bytes.{data_in}
use Rattle.load.specs.declared.entry.Entry.{Entry}
use Rattle.load.specs.declared.entry.LoadEntry.{LoadEntry}
use Rattle.load.specs.Answer.{becomes, stays}
use Rattle.load.specs.declared.state.Sockets.{Sockets}
use Rattle.outlet.specs.Sockets.{with_top, with_bottom}

abbrev pub at_top : Sockets → Bool → LoadEntry Sockets
at_top sockets on = becomes (with_top on sockets)

abbrev pub at_bottom : Sockets → Bool → LoadEntry Sockets
at_bottom sockets on = becomes (with_bottom on sockets)

-- FF or 00
unfoldable pub full_of : Bool → ℕ
full_of on = choose on 0xff 0x00

-- the top socket in bit 0, the bottom one in bit 1
unfoldable pub bit_of : Bool → ℕ
bit_of on = choose on 1 0

abbrev pub both_of : Sockets → ℕ
both_of sockets = bit_of sockets.top + 2 * bit_of sockets.bottom

-- 19: Command 2 says what is shown
abbrev pub statuses : Sockets → List (Row (LoadEntry Sockets))
statuses sockets =
    0x00 ⇒ stays sockets (Entry.Shows (full_of sockets.top)) ∷
    0x01 ⇒ stays sockets (Entry.Shows (both_of sockets)) ∷
    []

unfoldable pub status_entry : Sockets → ℕ → LoadEntry Sockets
status_entry sockets command2 = among command2 (stays sockets Entry.Unlisted) (statuses sockets)

-- standard 11 and 13 switch the top socket
abbrev pub load_rows : Sockets → ℕ → List (Row (LoadEntry Sockets))
load_rows sockets command2 =
    0x11 ⇒ at_top sockets true ∷
    0x13 ⇒ at_top sockets false ∷
    0x19 ⇒ status_entry sockets command2 ∷
    []

unfoldable pub load_entry : Sockets → Request → LoadEntry Sockets
load_entry sockets r = among r.command1 (stays sockets Entry.Unlisted) (load_rows sockets r.command2)

-- extended ones with Data 1 = 02 switch the bottom socket; any other Data 1 is not listed
unfoldable pub bottom_entry : Sockets → List ℕ → Bool → LoadEntry Sockets
bottom_entry sockets d on = choose (eqb (data_in d 1) 0x02) (at_bottom sockets on) (stays sockets Entry.Unlisted)

abbrev pub second_rows : Sockets → List ℕ → List (Row (LoadEntry Sockets))
second_rows sockets d =
    0x11 ⇒ bottom_entry sockets d true ∷
    0x13 ⇒ bottom_entry sockets d false ∷
    []

unfoldable pub second_entry : Sockets → Request → List ℕ → LoadEntry Sockets
second_entry sockets r d = among r.command1 (stays sockets Entry.Unlisted) (second_rows sockets d)

-- "Direct commands, extended": what they do to every module.
use Rattle.std.specs.Prelude.{ℕ, ◌+◌, ◌*◌, List, [], ◌∷◌, eqb, Option, Some, None}
use Rattle.basis.specs.Choice.{choose}
use Rattle.basis.specs.Table.{Row, among, ◌⇒◌}
use Rattle.basis.specs.Flags.{flagged}
use Rattle.wire.specs.declared.request.Request.{Request}
use Rattle.wire.specs.declared.command.Extended.{Extended}
use Rattle.wire.specs.Bytes.{data_in}
use Rattle.links.specs.Name.{place_of}
use Rattle.load.specs.declared.entry.Properties.{Properties}
use Rattle.module.specs.declared.state.Module.{Module}
use Rattle.module.specs.declared.change.Change.{Change}
use Rattle.module.specs.declared.deed.Ack.{Ack}
use Rattle.module.specs.declared.deed.Deed.{Deed}
use Rattle.module.specs.Deed.{acked, answered, limited}

-- 20: Command 2 is a flag's code, 00 to 0F
abbrev pub flags_deed : Module → ℕ → Deed
flags_deed m code = limited 0x00 0x0f code (acked (Change.Flags (flagged code m.flags)))

-- 2E: Data 2 says what is asked for
abbrev pub property_rows : List ℕ → List (Row Deed)
property_rows d =
    0x04 ⇒ acked (Change.X10 (data_in d 3) (data_in d 4)) ∷
    0x07 ⇒ limited 0x11 0x7f (data_in d 3) (acked (Change.Led (data_in d 3))) ∷
    []

unfoldable pub property_deed : List ℕ → Deed
property_deed d = among (data_in d 2) Deed.Unlisted (property_rows d)

-- it needs Command 2 = 00
unfoldable pub properties_deed : Request → List ℕ → Deed
properties_deed r d = choose (eqb r.command2 0x00) (property_deed d) Deed.Unlisted

-- Get Properties: Data 1 as sent, 01, 00, 00, house, unit, ramp, on level, LED, 00, 01, 00, 00, 00
abbrev pub shown : Module → ℕ → Properties → List ℕ
shown m data1 p =
    data1 ∷ 0x01 ∷ 0x00 ∷ 0x00 ∷ m.house ∷ m.unit ∷ p.ramp ∷ p.on_level ∷ m.led ∷ 0x00 ∷ 0x01 ∷ 0x00 ∷ 0x00 ∷ 0x00 ∷ []

abbrev pub shown_deed : Module → ℕ → Properties → Deed
shown_deed m data1 p = answered (Ack.WithProperties (shown m data1 p))

-- 2F, Data 2 = 00: records are sent from k on, Data 5 at most
abbrev pub get_deed : List ℕ → Option ℕ → Deed
get_deed d (Some k) = answered (Ack.WithRecords (record { data1 = data_in d 1; first = k; most = data_in d 5 }))
get_deed d None = Deed.Unlisted

-- Data 2 = 02: Data 5 = 1 to 8 bytes, from Data 6 on, go over the first bytes of record k
abbrev pub set_deed : List ℕ → Option ℕ → Deed
set_deed d (Some k) = limited 1 8 (data_in d 5) (Deed.Written (record { index = k; count = data_in d 5 }))
set_deed d None = Deed.Unlisted

abbrev pub record_rows : List ℕ → Option ℕ → List (Row Deed)
record_rows d place =
    0x00 ⇒ get_deed d place ∷
    0x02 ⇒ set_deed d place ∷
    []

-- of the record, of n, that Data 3 and 4 name
unfoldable pub record_deed : List ℕ → ℕ → Deed
record_deed d n = among (data_in d 2) Deed.Unlisted (record_rows d (place_of n (data_in d 3 * 256 + data_in d 4)))

-- it needs Command 2 = 00
unfoldable pub database_deed : Request → List ℕ → ℕ → Deed
database_deed r d n = choose (eqb r.command2 0x00) (record_deed d n) Deed.Unlisted

-- link memory has n records
abbrev pub extended_deed : Module → Request → List ℕ → ℕ → Extended → Deed
extended_deed m r d n Extended.SetFlags = flags_deed m r.command2
extended_deed m r d n Extended.Properties = properties_deed r d
extended_deed m r d n Extended.Database = database_deed r d n
extended_deed m r d n Extended.Load = Deed.Unlisted

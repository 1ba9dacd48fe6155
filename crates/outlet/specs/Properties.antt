-- Extended 2E on an outlet: ramp 1F and on level FF are shown whatever happens, and cannot be set.
use Rattle.std.specs.Prelude.{ℕ, List, eqb}
use Rattle.basis.specs.Choice.{choose}
use Rattle.wire.specs.Bytes.{data_in}
use Rattle.load.specs.declared.entry.Entry.{Entry}
use Rattle.load.specs.declared.entry.LoadEntry.{LoadEntry}
use Rattle.load.specs.Answer.{stays}
use Rattle.load.specs.declared.state.Sockets.{Sockets}

-- Data 2 = 00 is Get Properties; what else there is, every kind has
unfoldable pub property_entry : Sockets → List ℕ → LoadEntry Sockets
property_entry sockets d =
    choose (eqb (data_in d 2) 0x00) (stays sockets (Entry.Shown (record { ramp = 0x1f; on_level = 0xff }))) (stays sockets Entry.Shared)

-- A dimmer's own rows.
use Rattle.std.specs.Prelude.{ℕ, List}
use Rattle.wire.specs.declared.request.Request.{Request}
use Rattle.wire.specs.declared.command.Command.{Command}
use Rattle.load.specs.declared.entry.Entry.{Entry}
use Rattle.load.specs.declared.entry.LoadEntry.{LoadEntry}
use Rattle.load.specs.declared.state.Lamp.{Lamp}
use Rattle.load.specs.Answer.{stays}
use Rattle.load.specs.Table as table
use Rattle.dimmer.specs.Load.{load_entry}
use Rattle.dimmer.specs.Properties.{property_entry}

-- no extended command to the load is listed
abbrev pub own : table.Own Lamp
own = record { load_entry = load_entry; property_entry = property_entry; second_entry = λ lamp r d. stays lamp Entry.Unlisted }

-- with the data bytes beside the command
abbrev pub entry_of : Lamp → Request → List ℕ → Command → LoadEntry Lamp
entry_of = table.entry_of own

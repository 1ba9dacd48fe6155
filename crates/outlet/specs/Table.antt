-- An outlet's own rows.
use Rattle.std.specs.Prelude.{ℕ, List}
use Rattle.wire.specs.declared.request.Request.{Request}
use Rattle.wire.specs.declared.command.Command.{Command}
use Rattle.load.specs.declared.entry.LoadEntry.{LoadEntry}
use Rattle.load.specs.declared.state.Sockets.{Sockets}
use Rattle.load.specs.Table as table
use Rattle.outlet.specs.Load.{load_entry, second_entry}
use Rattle.outlet.specs.Properties.{property_entry}

abbrev pub own : table.Own Sockets
own = record { load_entry = load_entry; property_entry = property_entry; second_entry = second_entry }

-- with the data bytes beside the command
abbrev pub entry_of : Sockets → Request → List ℕ → Command → LoadEntry Sockets
entry_of = table.entry_of own

-- What a command comes to by the module's load: the one place that names a kind.
use Rattle.std.specs.Prelude.{ℕ, Option, option_map, List}
use Rattle.wire.specs.declared.request.Request.{Request}
use Rattle.wire.specs.declared.command.Command.{Command}
use Rattle.wire.specs.declared.command.GroupCommand.{GroupCommand}
use Rattle.wire.specs.Bytes.{data_in}
use Rattle.links.specs.declared.memory.Link.{Link}
use Rattle.load.specs.declared.entry.Entry.{Entry}
use Rattle.load.specs.declared.entry.LoadEntry.{LoadEntry}
use Rattle.load.specs.declared.state.Load.{Load}
use Rattle.load.specs.Answer.{of_kind}
use Rattle.module.specs.declared.state.Module.{Module}
use Rattle.module.specs.declared.change.Change.{Change}
use Rattle.module.specs.declared.deed.Deed.{Deed}
use Rattle.module.specs.Deed.{acked, showing}
use Rattle.shared.specs.Extended.{shown_deed}
use Rattle.shared.specs.Table.{shared_deed}
use Rattle.dimmer.specs.Table as dimmer
use Rattle.dimmer.specs.Groups as dimmer-groups
use Rattle.outlet.specs.Table as outlet
use Rattle.outlet.specs.Groups as outlet-groups

-- what the kind's own table has, with a load of that kind
abbrev pub entry_by : Load → Request → List ℕ → Command → LoadEntry Load
entry_by (Load.Dimmer lamp) r d command = of_kind Load.Dimmer (dimmer.entry_of lamp r d command)
entry_by (Load.Outlet sockets) r d command = of_kind Load.Outlet (outlet.entry_of sockets r d command)

-- what that comes to; with the data bytes, and n records in link memory
abbrev pub deed_by : Module → Request → List ℕ → ℕ → Command → Load → Entry → Deed
deed_by m r d n command next Entry.Done = acked (Change.Load next)
deed_by m r d n command next (Entry.Shows x) = showing x
deed_by m r d n command next (Entry.Shown p) = shown_deed m (data_in d 1) p
deed_by m r d n command next Entry.Shared = shared_deed m r d n command
deed_by m r d n command next Entry.Unlisted = Deed.Unlisted

abbrev pub own_deed : Module → Request → List ℕ → ℕ → Command → LoadEntry Load → Deed
own_deed m r d n command x = deed_by m r d n command x.load x.entry

abbrev pub deed_of : Module → Request → List ℕ → ℕ → Command → Deed
deed_of m r d n command = own_deed m r d n command (entry_by m.load r d command)

-- the load afterwards, where the deciding record fits a row of the kind
abbrev pub group_deed_by : Load → GroupCommand → Link → Option Load
group_deed_by (Load.Dimmer lamp) command link = option_map Load.Dimmer (dimmer-groups.group_of lamp command link)
group_deed_by (Load.Outlet sockets) command link = option_map Load.Outlet (outlet-groups.group_of sockets command link)

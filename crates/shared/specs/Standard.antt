-- "Direct commands, standard": what they do to every module.
use Rattle.std.specs.Prelude.{ℕ, List, [], ◌∷◌}
use Rattle.basis.specs.Table.{Row, among, ◌⇒◌}
use Rattle.wire.specs.declared.request.Request.{Request}
use Rattle.wire.specs.declared.command.Standard.{Standard}
use Rattle.wire.specs.declared.command.OpenCommand.{OpenCommand}
use Rattle.wire.specs.declared.command.ModuleCommand.{ModuleCommand}
use Rattle.module.specs.declared.state.Module.{Module}
use Rattle.module.specs.declared.change.Change.{Change}
use Rattle.module.specs.declared.deed.Ack.{Ack}
use Rattle.module.specs.declared.deed.Deed.{Deed}
use Rattle.module.specs.Deed.{acked, answered, telling}

-- 0F ping, 10 ID request
abbrev pub open_deed : OpenCommand → Deed
open_deed OpenCommand.Ping = acked Change.Nothing
open_deed OpenCommand.IdRequest = answered Ack.WithId

-- 1F: Command 2 says what is asked for
abbrev pub flag_bytes : Module → List (Row Deed)
flag_bytes m =
    0x00 ⇒ telling m.flags ∷
    0x01 ⇒ telling m.delta ∷
    []

unfoldable pub flags_told : Module → ℕ → Deed
flags_told m command2 = among command2 Deed.Unlisted (flag_bytes m)

-- 0D, 1F, 30
abbrev pub module_deed : Module → Request → ModuleCommand → Deed
module_deed m r ModuleCommand.EngineVersion = telling 0x02
module_deed m r ModuleCommand.ReadFlags = flags_told m r.command2
module_deed m r ModuleCommand.Beep = acked Change.Nothing

-- commands to the load are the kind's own
abbrev pub standard_deed : Module → Request → Standard → Deed
standard_deed m r (Standard.Open command) = open_deed command
standard_deed m r (Standard.Module command) = module_deed m r command
standard_deed m r Standard.Load = Deed.Unlisted

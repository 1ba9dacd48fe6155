-- What Command 1 asks for: the commands that every module answers alike; all others are its load's to list.
use Rattle.std.specs.Prelude.{ℕ, List, [], ◌∷◌, leb}
use Rattle.basis.specs.Choice.{choose}
use Rattle.basis.specs.Numbers.{within}
use Rattle.basis.specs.Table.{Row, among, ◌⇒◌}
use Rattle.wire.specs.declared.command.Standard.{Standard}
use Rattle.wire.specs.declared.command.OpenCommand.{OpenCommand}
use Rattle.wire.specs.declared.command.ModuleCommand.{ModuleCommand}
use Rattle.wire.specs.declared.command.Extended.{Extended}
use Rattle.wire.specs.declared.command.GroupCommand.{GroupCommand}

-- "Direct commands, standard"
unfoldable pub standards : List (Row Standard)
standards =
    0x0f ⇒ Standard.Open OpenCommand.Ping ∷
    0x10 ⇒ Standard.Open OpenCommand.IdRequest ∷
    0x0d ⇒ Standard.Module ModuleCommand.EngineVersion ∷
    0x1f ⇒ Standard.Module ModuleCommand.ReadFlags ∷
    0x30 ⇒ Standard.Module ModuleCommand.Beep ∷
    []

abbrev pub standard_of : ℕ → Standard
standard_of command1 = among command1 Standard.Load standards

-- "Direct commands, extended"
unfoldable pub extendeds : List (Row Extended)
extendeds =
    0x20 ⇒ Extended.SetFlags ∷
    0x2e ⇒ Extended.Properties ∷
    0x2f ⇒ Extended.Database ∷
    []

abbrev pub extended_of : ℕ → Extended
extended_of command1 = among command1 Extended.Load extendeds

-- "Groups": of 11 to 14 the first two turn on, the others off
abbrev pub turn_of : ℕ → GroupCommand
turn_of command1 = choose (leb command1 0x12) GroupCommand.On GroupCommand.Off

unfoldable pub group_command_of : ℕ → GroupCommand
group_command_of command1 = choose (within 0x11 0x14 command1) (turn_of command1) GroupCommand.Unlisted

-- "Groups": what the deciding record does to a dimmer's lamp.
use Rattle.std.specs.Prelude.{Option, Some, None}
use Rattle.wire.specs.declared.command.GroupCommand.{GroupCommand}
use Rattle.links.specs.declared.memory.Link.{Link}
use Rattle.load.specs.declared.state.Lamp.{Lamp}
use Rattle.dimmer.specs.Lamp.{with_level}

-- 11, 12 set the level to its D1, 13, 14 to 00; no other Command 1 fits a row
abbrev pub group_of : Lamp → GroupCommand → Link → Option Lamp
group_of lamp GroupCommand.On link = Some (with_level link.d1 lamp)
group_of lamp GroupCommand.Off link = Some (with_level 0x00 lamp)
group_of lamp GroupCommand.Unlisted link = None

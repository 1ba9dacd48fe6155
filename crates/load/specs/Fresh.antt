-- What fresh loads start with ("The module we simulate"; the outlet by request 1).
use Rattle.std.specs.Prelude.{false}
use Rattle.load.specs.declared.state.Lamp.{Lamp}
use Rattle.load.specs.declared.state.Sockets.{Sockets}

-- a lamp: level 00, ramp 1F, on level FF
abbrev pub fresh_lamp : Lamp
fresh_lamp = record { level = 0x00; ramp = 0x1f; on_level = 0xff }

-- sockets: off
abbrev pub fresh_sockets : Sockets
fresh_sockets = record { top = false; bottom = false }

-- An outlet's sockets.
use Rattle.std.specs.Prelude.{Bool}
use Rattle.load.specs.declared.state.Sockets.{Sockets}

-- the sockets with one of them switched
abbrev pub with_top : Bool → Sockets → Sockets
with_top on sockets = record { top = on; bottom = sockets.bottom }

abbrev pub with_bottom : Bool → Sockets → Sockets
with_bottom on sockets = record { top = sockets.top; bottom = on }

-- What the deciding record does to an outlet: its D3 names the socket.
use Rattle.std.specs.Prelude.{ℕ, Bool, false, not, Option, Some, None, List, [], ◌∷◌, eqb}
use Rattle.basis.specs.Table.{Row, among, ◌⇒◌}
use Rattle.wire.specs.declared.command.GroupCommand.{GroupCommand}
use Rattle.links.specs.declared.memory.Link.{Link}
use Rattle.load.specs.declared.state.Sockets.{Sockets}
use Rattle.outlet.specs.Sockets.{with_top, with_bottom}

-- 01 top, 02 bottom
abbrev pub socket_rows : Sockets → Bool → List (Row (Option Sockets))
socket_rows sockets on =
    0x01 ⇒ Some (with_top on sockets) ∷
    0x02 ⇒ Some (with_bottom on sockets) ∷
    []

unfoldable pub socket_group : Sockets → ℕ → Bool → Option Sockets
socket_group sockets d3 on = among d3 None (socket_rows sockets on)

-- 11 and 12: off where D1 = 00, else on; 13 and 14: off
abbrev pub group_of : Sockets → GroupCommand → Link → Option Sockets
group_of sockets GroupCommand.On link = socket_group sockets link.d3 (not (eqb link.d1 0x00))
group_of sockets GroupCommand.Off link = socket_group sockets link.d3 false
group_of sockets GroupCommand.Unlisted link = None

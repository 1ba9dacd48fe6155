-- What a group command does to an outlet, by the bytes of the message and the deciding record (request 1).
use Rattle.std.specs.Prelude.{ℕ, ◌≤◌, ◌≡◌, Bool, true, false, List}
use Rattle.wire.specs.Bytes.{command1_of}
use Rattle.links.specs.declared.memory.Link.{Link}
use Rattle.load.specs.declared.state.Sockets.{Sockets}

-- on or off: 11, 12 are off where the record's D1 = 00, else on; 13, 14 are off
pub data Turns (s : List ℕ) (decides : Link) : Bool → Type 0 where
  on : 0x11 ≤ command1_of s → command1_of s ≤ 0x12 → ¬ (decides.d1 ≡ 0x00) → Turns s decides true
  on-at-zero : 0x11 ≤ command1_of s → command1_of s ≤ 0x12 → decides.d1 ≡ 0x00 → Turns s decides false
  off : 0x13 ≤ command1_of s → command1_of s ≤ 0x14 → Turns s decides false

-- the record's D3 names the socket, 01 top, 02 bottom, and the other one stays
pub data GroupOutlet (sockets : Sockets) (s : List ℕ) (decides : Link) : Sockets → Type 0 where
  top : (x : Bool) → decides.d3 ≡ 0x01 → Turns s decides x → GroupOutlet sockets s decides (record { top = x; bottom = sockets.bottom })
  bottom : (x : Bool) → decides.d3 ≡ 0x02 → Turns s decides x → GroupOutlet sockets s decides (record { top = sockets.top; bottom = x })

-- The legal direct commands that are an outlet's own, by the bytes of the message: the sockets afterwards, and what is answered (request 1).
use Rattle.std.specs.Prelude.{ℕ, ◌+◌, ◌*◌, ◌≡◌, Bool, true, false, List}
use Rattle.wire.specs.Bytes.{command2_of, data_at}
use Rattle.wire.specs.Asked.{Short, Long, Asks}
use Rattle.load.specs.declared.entry.Entry.{Entry}
use Rattle.load.specs.declared.state.Sockets.{Sockets}

-- FF or 00; 1 or 0
abbrev pub full : Bool → ℕ
full true = 0xff
full false = 0x00

abbrev pub bit : Bool → ℕ
bit true = 1
bit false = 0

module _ (sockets : Sockets) (s : List ℕ) where
  -- the one socket is switched and the other stays
  abbrev top : Bool → Sockets
  top on = record { top = on; bottom = sockets.bottom }

  abbrev bottom : Bool → Sockets
  bottom on = record { top = sockets.top; bottom = on }

  pub data Outlet : Sockets → Entry → Type 0 where
    top_on : Short s 0x11 → Outlet (top true) Entry.Done
    top-off : Short s 0x13 → Outlet (top false) Entry.Done
    bottom-on : Long s 0x11 → data_at s 1 ≡ 0x02 → Outlet (bottom true) Entry.Done
    bottom-off : Long s 0x13 → data_at s 1 ≡ 0x02 → Outlet (bottom false) Entry.Done
    status : Short s 0x19 → command2_of s ≡ 0x00 → Outlet sockets (Entry.Shows (full sockets.top))
    -- the top socket in bit 0, the bottom one in bit 1
    status-both : Short s 0x19 → command2_of s ≡ 0x01 → Outlet sockets (Entry.Shows (bit sockets.top + 2 * bit sockets.bottom))
    -- ramp and on level of a fresh module
    get-properties : Asks s 0x2e 0x00 → Outlet sockets (Entry.Shown (record { ramp = 0x1f; on_level = 0xff }))

-- The legal direct commands that are a dimmer's own, by the bytes of the message: the lamp afterwards, and what is answered.
use Rattle.std.specs.Prelude.{ℕ, ◌+◌, ◌-◌, ◌*◌, ◌/◌, ◌≤◌, min, ◌≡◌, List}
use Rattle.wire.specs.Bytes.{command2_of, data_at}
use Rattle.wire.specs.Asked.{Short, Asks}
use Rattle.load.specs.declared.entry.Entry.{Entry}
use Rattle.load.specs.declared.state.Lamp.{Lamp}
use Rattle.dimmer.specs.Lamp.{with_level, with_ramp, with_on_level}

module _ (lamp : Lamp) (s : List ℕ) where
  pub data Dimmer : Lamp → Entry → Type 0 where
    on : Short s 0x11 → Dimmer (with_level (command2_of s) lamp) Entry.Done
    on-fast : Short s 0x12 → Dimmer (with_level (command2_of s) lamp) Entry.Done
    instant : Short s 0x21 → Dimmer (with_level (command2_of s) lamp) Entry.Done
    off : Short s 0x13 → Dimmer (with_level 0x00 lamp) Entry.Done
    off-fast : Short s 0x14 → Dimmer (with_level 0x00 lamp) Entry.Done
    brighten : Short s 0x15 → Dimmer (with_level (min (lamp.level + 8) 0xff) lamp) Entry.Done
    dim : Short s 0x16 → Dimmer (with_level (lamp.level - 8) lamp) Entry.Done
    status : Short s 0x19 → command2_of s ≡ 0x00 → Dimmer lamp (Entry.Shows lamp.level)
    status-percent : Short s 0x19 → command2_of s ≡ 0x06 → Dimmer lamp (Entry.Shows ((100 * lamp.level + 127) / 255))
    on-at-ramp : Short s 0x2e → Dimmer (with_level (command2_of s / 16 * 16 + 0x0f) lamp) Entry.Done
    off-at-ramp : Short s 0x2f → Dimmer (with_level 0x00 lamp) Entry.Done
    percent : Short s 0x39 → command2_of s ≤ 0x64 → Dimmer (with_level ((255 * command2_of s + 50) / 100) lamp) Entry.Done
    get-properties : Asks s 0x2e 0x00 → Dimmer lamp (Entry.Shown (record { ramp = lamp.ramp; on_level = lamp.on_level }))
    set-ramp : Asks s 0x2e 0x05 → data_at s 3 ≤ 0x1f → Dimmer (with_ramp (data_at s 3) lamp) Entry.Done
    set-on-level : Asks s 0x2e 0x06 → Dimmer (with_on_level (data_at s 3) lamp) Entry.Done

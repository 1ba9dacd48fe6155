-- "Direct commands, extended": a dimmer's own properties.
use Rattle.std.specs.Prelude.{ℕ, List, [], ◌∷◌, leb}
use Rattle.basis.specs.Choice.{choose}
use Rattle.basis.specs.Table.{Row, among, ◌⇒◌}
use Rattle.wire.specs.Bytes.{data_in}
use Rattle.load.specs.declared.entry.Entry.{Entry}
use Rattle.load.specs.declared.entry.LoadEntry.{LoadEntry}
use Rattle.load.specs.Answer.{becomes, stays}
use Rattle.load.specs.declared.state.Lamp.{Lamp}
use Rattle.dimmer.specs.Lamp.{with_ramp, with_on_level}

-- ramp 00 to 1F
unfoldable pub ramp_entry : Lamp → ℕ → LoadEntry Lamp
ramp_entry lamp ramp = choose (leb ramp 0x1f) (becomes (with_ramp ramp lamp)) (stays lamp Entry.Unlisted)

-- 2E: Data 2 says what is asked for; 00 is Get Properties
abbrev pub property_rows : Lamp → List ℕ → List (Row (LoadEntry Lamp))
property_rows lamp d =
    0x00 ⇒ stays lamp (Entry.Shown (record { ramp = lamp.ramp; on_level = lamp.on_level })) ∷
    0x05 ⇒ ramp_entry lamp (data_in d 3) ∷
    0x06 ⇒ becomes (with_on_level (data_in d 3) lamp) ∷
    []

-- what else there is, every kind has
unfoldable pub property_entry : Lamp → List ℕ → LoadEntry Lamp
property_entry lamp d = among (data_in d 2) (stays lamp Entry.Shared) (property_rows lamp d)

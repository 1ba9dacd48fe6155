-- "Direct commands, standard": those to a dimmer's lamp.
use Rattle.std.specs.Prelude.{ℕ, ◌+◌, ◌-◌, ◌*◌, ◌/◌, min, List, [], ◌∷◌, leb}
use Rattle.basis.specs.Choice.{choose}
use Rattle.basis.specs.Table.{Row, among, ◌⇒◌}
use Rattle.wire.specs.declared.request.Request.{Request}
use Rattle.load.specs.declared.entry.Entry.{Entry}
use Rattle.load.specs.declared.entry.LoadEntry.{LoadEntry}
use Rattle.load.specs.Answer.{becomes, stays}
use Rattle.load.specs.declared.state.Lamp.{Lamp}
use Rattle.dimmer.specs.Lamp.{with_level}

-- level plus 8, at most FF; level minus 8, at least 00
abbrev pub raised : ℕ → ℕ
raised level = min (level + 8) 0xff

abbrev pub lowered : ℕ → ℕ
lowered level = level - 8

-- the high digit followed by the digit F
abbrev pub high_then_f : ℕ → ℕ
high_then_f command2 = command2 / 16 * 16 + 15

-- a level as per cent, and per cent as a level
abbrev pub percent_of : ℕ → ℕ
percent_of level = (100 * level + 127) / 255

abbrev pub level_of : ℕ → ℕ
level_of p = (255 * p + 50) / 100

-- the lamp takes a level
abbrev pub at_level : Lamp → ℕ → LoadEntry Lamp
at_level lamp level = becomes (with_level level lamp)

-- 19: Command 2 says what is shown, after the delta
abbrev pub statuses : Lamp → List (Row (LoadEntry Lamp))
statuses lamp =
    0x00 ⇒ stays lamp (Entry.Shows lamp.level) ∷
    0x06 ⇒ stays lamp (Entry.Shows (percent_of lamp.level)) ∷
    []

unfoldable pub status_entry : Lamp → ℕ → LoadEntry Lamp
status_entry lamp command2 = among command2 (stays lamp Entry.Unlisted) (statuses lamp)

-- 39: Command 2 in 00 to 64
unfoldable pub percent_entry : Lamp → ℕ → LoadEntry Lamp
percent_entry lamp command2 = choose (leb command2 0x64) (at_level lamp (level_of command2)) (stays lamp Entry.Unlisted)

-- Command 1 decides, then Command 2 where the row says so
abbrev pub load_rows : Lamp → ℕ → List (Row (LoadEntry Lamp))
load_rows lamp command2 =
    0x11 ⇒ at_level lamp command2 ∷
    0x12 ⇒ at_level lamp command2 ∷
    0x21 ⇒ at_level lamp command2 ∷
    0x13 ⇒ at_level lamp 0x00 ∷
    0x14 ⇒ at_level lamp 0x00 ∷
    0x15 ⇒ at_level lamp (raised lamp.level) ∷
    0x16 ⇒ at_level lamp (lowered lamp.level) ∷
    0x19 ⇒ status_entry lamp command2 ∷
    0x2e ⇒ at_level lamp (high_then_f command2) ∷
    0x2f ⇒ at_level lamp 0x00 ∷
    0x39 ⇒ percent_entry lamp command2 ∷
    []

unfoldable pub load_entry : Lamp → Request → LoadEntry Lamp
load_entry lamp r = among r.command1 (stays lamp Entry.Unlisted) (load_rows lamp r.command2)

-- What a group command does to a dimmer, by the bytes of the message and the deciding record ("Groups").
use Rattle.std.specs.Prelude.{ℕ, ◌≤◌, List}
use Rattle.wire.specs.Bytes.{command1_of}
use Rattle.links.specs.declared.memory.Link.{Link}
use Rattle.load.specs.declared.state.Lamp.{Lamp}
use Rattle.dimmer.specs.Lamp.{with_level}

-- 11, 12 set the level to the record's D1, 13, 14 to 00
pub data GroupDimmer (lamp : Lamp) (s : List ℕ) (decides : Link) : Lamp → Type 0 where
  on : 0x11 ≤ command1_of s → command1_of s ≤ 0x12 → GroupDimmer lamp s decides (with_level decides.d1 lamp)
  off : 0x13 ≤ command1_of s → command1_of s ≤ 0x14 → GroupDimmer lamp s decides (with_level 0x00 lamp)

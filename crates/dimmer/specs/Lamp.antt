-- A dimmer's lamp.
use Rattle.std.specs.Prelude.{ℕ}
use Rattle.load.specs.declared.state.Lamp.{Lamp}

-- a lamp with one value set
abbrev pub with_level : ℕ → Lamp → Lamp
with_level x lamp = record { level = x; ramp = lamp.ramp; on_level = lamp.on_level }

abbrev pub with_ramp : ℕ → Lamp → Lamp
with_ramp x lamp = record { level = lamp.level; ramp = x; on_level = lamp.on_level }

abbrev pub with_on_level : ℕ → Lamp → Lamp
with_on_level x lamp = record { level = lamp.level; ramp = lamp.ramp; on_level = x }

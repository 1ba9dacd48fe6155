-- Ramp rate and on level are stored and reported, and steer nothing else ("The module we simulate").
use Rattle.std.specs.Prelude.{ℕ, ◌≡◌}
use Rattle.load.specs.Alike.{Alike}
use Rattle.load.specs.declared.state.Lamp.{Lamp}
use Rattle.load.specs.declared.entry.LoadEntry.{LoadEntry}
use Rattle.dimmer.specs.Lamp.{with_ramp, with_on_level}

-- a lamp with another ramp rate and on level
abbrev pub with_rates : ℕ → ℕ → Lamp → Lamp
with_rates ramp on_level lamp = with_ramp ramp (with_on_level on_level lamp)

-- answers that leave one level, and differ by what Get Properties shows alone
pub record LampsAlike (x y : LoadEntry Lamp) : Type 0 where
  pub level : x.load.level ≡ y.load.level
  pub entry : Alike x.entry y.entry

-- What a message changes.
use Rattle.std.specs.Prelude.{ℕ, ◌+◌, ◌%◌}
use Rattle.load.specs.declared.state.Load.{Load}
use Rattle.module.specs.declared.state.Module.{Module}
use Rattle.module.specs.declared.change.Change.{Change}

-- the module with one value set
abbrev pub with_flags : ℕ → Module → Module
with_flags x m = record { identity = m.identity; flags = x; led = m.led; house = m.house; unit = m.unit; delta = m.delta; load = m.load }

abbrev pub with_led : ℕ → Module → Module
with_led x m = record { identity = m.identity; flags = m.flags; led = x; house = m.house; unit = m.unit; delta = m.delta; load = m.load }

abbrev pub with_x10 : ℕ → ℕ → Module → Module
with_x10 house unit m = record { identity = m.identity; flags = m.flags; led = m.led; house = house; unit = unit; delta = m.delta; load = m.load }

abbrev pub with_delta : ℕ → Module → Module
with_delta x m = record { identity = m.identity; flags = m.flags; led = m.led; house = m.house; unit = m.unit; delta = x; load = m.load }

abbrev pub with_load : Load → Module → Module
with_load x m = record { identity = m.identity; flags = m.flags; led = m.led; house = m.house; unit = m.unit; delta = m.delta; load = x }

-- the delta goes up by 1, FF to 00
abbrev pub next_delta : Module → Module
next_delta m = with_delta ((m.delta + 1) % 256) m

-- the module after a change: its identity stands in none
abbrev pub apply : Change → Module → Module
apply Change.Nothing m = m
apply (Change.Flags x) m = with_flags x m
apply (Change.Led x) m = with_led x m
apply (Change.X10 house unit) m = with_x10 house unit m
apply (Change.Load x) m = with_load x m
apply Change.NextDelta m = next_delta m

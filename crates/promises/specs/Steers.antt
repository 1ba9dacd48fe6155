-- What is stored and reported, and steers nothing else ("The module we simulate"); what is not read ("Message bytes").
use Rattle.std.specs.Prelude.{ℕ, ◌/◌, ◌%◌, ◌≡◌, List, ◌∷◌}
use Rattle.results.specs.Number.{number_of}
use Rattle.load.specs.declared.state.Load.{Load}
use Rattle.module.specs.declared.state.Module.{Module}
use Rattle.module.specs.Change.{with_flags, with_led, with_load}
use Rattle.dimmer.specs.Rates as lamps
use Rattle.device.specs.Step.{Step, step_of}

-- a dimmer's lamp with another ramp rate and on level; an outlet has none
abbrev pub with_rates : ℕ → ℕ → Load → Load
with_rates ramp on_level (Load.Dimmer lamp) = Load.Dimmer (lamps.with_rates ramp on_level lamp)
with_rates ramp on_level (Load.Outlet sockets) = Load.Outlet sockets

-- the module with other flags, LED, ramp rate and on level
abbrev pub stored : ℕ → ℕ → ℕ → ℕ → Module → Module
stored flags led ramp on_level m = with_flags flags (with_led led (with_load (with_rates ramp on_level m.load) m))

-- one module is the other with some such values: its level, or its sockets, and all the rest are equal
pub record Besides (m n : Module) : Type 0 where
  pub flags : ℕ
  pub led : ℕ
  pub ramp : ℕ
  pub on-level : ℕ
  pub rest : n ≡ stored flags led ramp on-level m

pub record SameBut (t u : Step) : Type 0 where
  pub number : number_of t.outcome ≡ number_of u.outcome
  pub read : t.read ≡ u.read
  pub links : t.links ≡ u.links
  pub next : Besides t.next u.next

-- modules that differ there alone give equal numbers, and differ there alone afterwards
abbrev pub SteersNothing : Type 0
SteersNothing = (m n : Module) (l s room : List ℕ) → Besides m n → SameBut (step_of m l s room) (step_of n l s room)

-- bits 3 and 2 of a message's flags are not read: From (3), To (3), and flags that differ there alone
abbrev pub HopsUnread : Type 0
HopsUnread =
    (m : Module) (l room : List ℕ) (f0 f1 f2 t0 t1 t2 flags other : ℕ) (rest : List ℕ) → flags / 16 ≡ other / 16 → flags % 4 ≡ other % 4 →
    step_of m l (f0 ∷ f1 ∷ f2 ∷ t0 ∷ t1 ∷ t2 ∷ flags ∷ rest) room ≡ step_of m l (f0 ∷ f1 ∷ f2 ∷ t0 ∷ t1 ∷ t2 ∷ other ∷ rest) room

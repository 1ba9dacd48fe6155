-- The legal direct commands of a module: those of all kinds, and those of its own kind.
use Rattle.std.specs.Prelude.{ℕ, ◌≤◌, ◌≡◌, List, ◌++◌, length}
use Rattle.results.specs.Number.{number_of}
use Rattle.load.specs.declared.entry.Entry.{Entry}
use Rattle.load.specs.declared.entry.Properties.{Properties}
use Rattle.load.specs.declared.state.Lamp.{Lamp}
use Rattle.load.specs.declared.state.Sockets.{Sockets}
use Rattle.load.specs.declared.state.Load.{Load}
use Rattle.module.specs.declared.state.Module.{Module}
use Rattle.module.specs.Change.{with_load}
use Rattle.dimmer.specs.Legal.{Dimmer}
use Rattle.outlet.specs.Legal.{Outlet}
use Rattle.device.specs.Step.{step_of}
use Rattle.promises.specs.NotHere.{NotHere}
use Rattle.promises.specs.Legal.{Effect, ack, repeated, properties, becomes, sends, Shared, FromLinked, Taken}

-- a row of the table of the load's kind: the load afterwards, and what is answered
pub data Own (s : List ℕ) : Load → Load → Entry → Type 0 where
  dimmer : (lamp next : Lamp) (entry : Entry) → Dimmer lamp s next entry → Own s (Load.Dimmer lamp) (Load.Dimmer next) entry
  outlet : (sockets next : Sockets) (entry : Entry) → Outlet sockets s next entry → Own s (Load.Outlet sockets) (Load.Outlet next) entry

-- what such an answer brings about
pub data Brought (m : Module) (l s : List ℕ) (next : Load) : Entry → Effect → Type 0 where
  done : Brought m l s next Entry.Done (becomes m l s (with_load next m))
  -- the delta, and a value
  shows : (x : ℕ) → Brought m l s next (Entry.Shows x) (sends m l (ack m s m.delta x))
  shown : (p : Properties) → Brought m l s next (Entry.Shown p) (sends m l (repeated m s ++ properties m s p))

pub data Legal (m : Module) (l s : List ℕ) (e : Effect) : Type 0 where
  shared : Shared m l s e → Legal m l s e
  own : (next : Load) (entry : Entry) → Own s m.load next entry → Brought m l s next entry e → Legal m l s e

-- with fit link memory and room enough, every legal command of a linked sender takes its stated effect
abbrev pub TakesEffect : Type 0
TakesEffect =
    (m : Module) (l s room : List ℕ) (e : Effect) → FromLinked m l s → length e.reply ≤ length room → Legal m l s e →
    Taken room e (step_of m l s room)

-- and outside the tables a linked sender's command gives 7
abbrev pub ElseSeven : Type 0
ElseSeven =
    (m : Module) (l s room : List ℕ) → FromLinked m l s → 9 ≤ length room → ((e : Effect) → ¬ Legal m l s e) →
    number_of (step_of m l s room).outcome ≡ 7

-- such are these, of an outlet
abbrev pub OutletSeven : Type 0
OutletSeven =
    (m : Module) (sockets : Sockets) (l s room : List ℕ) → m.load ≡ Load.Outlet sockets → FromLinked m l s → 9 ≤ length room → NotHere s →
    number_of (step_of m l s room).outcome ≡ 7

-- Room enough ("Result numbers", "The program").
use Rattle.std.specs.Prelude.{ℕ, ◌≤◌, ◌<◌, ◌≡◌, true, List, map, ◌↔◌, length}
use Rattle.links.specs.Record.{is_fit}
use Rattle.reply.specs.Reply.{reply_of}
use Rattle.results.specs.Number.{number_of}
use Rattle.module.specs.declared.state.Module.{Module}
use Rattle.decide.specs.Ruling.{ruling_of}
use Rattle.device.specs.Step.{step_of}
use Rattle.device.specs.Run.{State, said_of, run_of, end_of, calls_of, lent_call, lent_of, lent_end}

-- the reply that is due to a message, whatever the room
abbrev pub due_to : Module → List ℕ → List ℕ → List ℕ
due_to m l s = reply_of m.identity.address l (ruling_of m l s).plan.due

-- the room's length alone decides 5
abbrev pub DecidesFive : Type 0
DecidesFive = (m : Module) (l s room : List ℕ) → (number_of (step_of m l s room).outcome ≡ 5) ↔ (length room < length (due_to m l s))

-- 5,897 bytes hold every reply
abbrev pub AlwaysEnough : Type 0
AlwaysEnough = (m : Module) (l s : List ℕ) → length (due_to m l s) ≤ 5897

-- and a reply of some module, with fit link memory, to some message is as long
pub record Reached : Type 0 where
  pub device : Module
  pub links : List ℕ
  pub message : List ℕ
  pub fit : is_fit links ≡ true
  pub long : length (due_to device links message) ≡ 5897

-- two rooms of one length give equal number, reply, records read, module and link memory
abbrev pub LengthAlone : Type 0
LengthAlone =
    (s : State) (message room other : List ℕ) → length room ≡ length other → said_of (lent_call s room message) ≡ said_of (lent_call s other message)

-- so messages with one room, lent again and again, come to what they come to with rooms of its length
abbrev pub LentAgain : Type 0
LentAgain =
    (s : State) (room : List ℕ) (messages : List (List ℕ)) →
    (lent_of s room messages ≡ map said_of (run_of s (calls_of room messages))) × (lent_end s room messages ≡ end_of s (calls_of room messages))

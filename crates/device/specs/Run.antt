-- Message after message: each finds the module and the link memory that the one before it left.
use Rattle.std.specs.Prelude.{ℕ, List, [], ◌∷◌, map}
use Rattle.results.specs.declared.Outcome.{Outcome}
use Rattle.module.specs.declared.state.Module.{Module}
use Rattle.device.specs.Step.{Step, step_of}

-- a message with its reply room
pub record Call : Type 0 where
  pub message : List ℕ
  pub room : List ℕ

pub record State : Type 0 where
  pub device : Module
  pub links : List ℕ

abbrev pub call_of : State → Call → Step
call_of s c = step_of s.device s.links c.message c.room

abbrev pub left_by : Step → State
left_by t = record { device = t.next; links = t.links }

-- what comes out of each call, in their order
unfoldable pub run_of : State → List Call → List Step
run_of s [] = []
run_of s (c ∷ cs) =
    let t : Step = call_of s c in
    t ∷ run_of (left_by t) cs

-- the state that all of them leave
unfoldable pub end_of : State → List Call → State
end_of s [] = s
end_of s (c ∷ cs) = end_of (left_by (call_of s c)) cs

-- what a call comes to, its room aside
pub record Said : Type 0 where
  pub outcome : Outcome
  pub reply : List ℕ
  pub read : ℕ
  pub left : State

abbrev pub said_of : Step → Said
said_of t = record { outcome = t.outcome; reply = t.reply; read = t.read; left = left_by t }

-- messages, each with such a room of its own
abbrev pub calls_of : List ℕ → List (List ℕ) → List Call
calls_of room messages = map (λ (message : List ℕ). record { message = message; room = room }) messages

-- messages with one room, lent again and again: each finds it as the one before left it
abbrev pub lent_call : State → List ℕ → List ℕ → Step
lent_call s room message = call_of s (record { message = message; room = room })

unfoldable pub lent_of : State → List ℕ → List (List ℕ) → List Said
lent_of s room [] = []
lent_of s room (message ∷ more) =
    let t : Step = lent_call s room message in
    said_of t ∷ lent_of (left_by t) t.room more

unfoldable pub lent_end : State → List ℕ → List (List ℕ) → State
lent_end s room [] = s
lent_end s room (message ∷ more) =
    let t : Step = lent_call s room message in
    lent_end (left_by t) t.room more

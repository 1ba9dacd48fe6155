-- Demand 2, message after message: each call comes to what the definitions say of the state that the calls before it left.
use Rattle.std.specs.Prelude.{ℕ, ◌≡◌, List, [], ◌∷◌, ◌++◌, map, length}
use Rattle.results.specs.declared.Outcome.{Outcome}
use Rattle.device.specs.declared.step.Answer.{Answer}
use Rattle.device.specs.Step.{Step, StepPromise}
use Rattle.device.specs.Run.{Call, State, call_of, left_by, run_of, end_of}

-- of the definitions: at each place of a sequence it is the one call, from the state that the calls before it leave
abbrev pub AtEach : Type 0
AtEach =
    (s : State) (before : List Call) (c : Call) (after : List Call) →
    run_of s (before ++ c ∷ after) ≡ run_of s before ++ call_of (end_of s before) c ∷ run_of (left_by (call_of (end_of s before) c)) after

-- of the code: what a caller sees of one call
pub record Seen : Type 0 where
  pub outcome : Outcome
  pub length : ℕ
  pub read : ℕ
  pub room : List ℕ

abbrev pub seen_of : Step → Seen
seen_of t = record { outcome = t.outcome; length = length t.reply; read = t.read; room = t.room }

abbrev pub seen_by : Answer → List ℕ → Seen
seen_by a room = record { outcome = a.outcome; length = a.length; read = a.read; room = room }

-- calls of the code one after the other, each with the module and the link memory that the one before it left
pub data Served : State → List Call → List Seen → State → Type 0 where
  none : {s : State} → Served s [] [] s
  next : {s e : State} {c : Call} {cs : List Call} {seen : List Seen} (a : Answer) (links room : List ℕ)
      → StepPromise s.device s.links c.message c.room a links room
      → Served (record { device = a.next; links = links }) cs seen e
      → Served s (c ∷ cs) (seen_by a room ∷ seen) e

-- the code's calls come to what the definitions say, one by one, and so does the state at the end
abbrev pub AsDefined : Type 0
AsDefined = (s : State) (cs : List Call) (seen : List Seen) (e : State) → Served s cs seen e → (seen ≡ map seen_of (run_of s cs)) × (e ≡ end_of s cs)

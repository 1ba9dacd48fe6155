-- Demand 3: strangers get nothing.
use Rattle.std.specs.Prelude.{ℕ, ◌≤◌, ◌≡◌, Bool, true, false, not, ◌&&◌, ◌||◌, List, [], ◌∷◌, ◌↔◌, eqb, length}
use Rattle.wire.specs.Bytes.{from_of, hops_of, command1_of, is_extended}
use Rattle.wire.specs.Kinds.{is_direct}
use Rattle.wire.specs.Reading.{well_formed}
use Rattle.links.specs.Record.{is_fit}
use Rattle.links.specs.Live.{Linked}
use Rattle.reply.specs.declared.due.ReplyType.{ReplyType}
use Rattle.reply.specs.Message.{standard}
use Rattle.module.specs.declared.state.Module.{Module}
use Rattle.device.specs.Step.{Step, step_of}
use Rattle.device.specs.Run.{Call, State, call_of, left_by, run_of, end_of}
use Rattle.promises.specs.Room.{due_to}

-- no live record of the sender stands before the first never-used record
abbrev pub Stranger : List ℕ → List ℕ → Type 0
Stranger l s = Linked l (from_of s) → ⊥

-- a standard ping or a standard ID request
abbrev pub ping_or_id : List ℕ → Bool
ping_or_id s = not (is_extended s) && (eqb (command1_of s) 0x0f || eqb (command1_of s) 0x10)

-- of a well-formed direct command to us, where there is room for what is due
abbrev pub NakExactly : Type 0
NakExactly =
    (m : Module) (l s room : List ℕ) → is_fit l ≡ true → well_formed s m.identity.address ≡ true → is_direct s ≡ true →
    length (due_to m l s) ≤ length room →
    ((step_of m l s room).reply ≡ standard m.identity.address (from_of s) ReplyType.Nak (hops_of s) (command1_of s) 0xff) ↔
    ((ping_or_id s ≡ false) × Stranger l s)

-- to a stranger of both memories two modules of equal identity, of one kind or of two, send equal bytes, whatever the message
abbrev pub LearnsNothing : Type 0
LearnsNothing =
    (m n : Module) (l k s room : List ℕ) → m.identity ≡ n.identity → is_fit l ≡ true → is_fit k ≡ true → Stranger l s → Stranger k s →
    ((step_of m l s room).reply ≡ (step_of n k s room).reply) × ((step_of m l s room).room ≡ (step_of n k s room).room)

-- a sequence from a state, what is left of it without those who are strangers on arrival, and what the whole sequence gives to those left
pub data Struck : State → List Call → List Call → List Step → Type 0 where
  none : {s : State} → Struck s [] [] []
  keep : {s : State} {c : Call} {cs kept : List Call} {steps : List Step}
      → Linked s.links (from_of c.message)
      → Struck (left_by (call_of s c)) cs kept steps
      → Struck s (c ∷ cs) (c ∷ kept) (call_of s c ∷ steps)
  strike : {s : State} {c : Call} {cs kept : List Call} {steps : List Step}
      → Stranger s.links c.message
      → Struck (left_by (call_of s c)) cs kept steps
      → Struck s (c ∷ cs) kept steps

-- from every state every sequence can be so struck
pub record Strikes (s : State) (cs : List Call) : Type 0 where
  pub kept : List Call
  pub steps : List Step
  pub struck : Struck s cs kept steps

abbrev pub AlwaysStrikes : Type 0
AlwaysStrikes = (s : State) (cs : List Call) → Strikes s cs

-- and those left, alone, come to the same, step by step and at the end
abbrev pub Unmissed : Type 0
Unmissed = (s : State) (cs kept : List Call) (steps : List Step) → Struck s cs kept steps → (run_of s kept ≡ steps) × (end_of s kept ≡ end_of s cs)

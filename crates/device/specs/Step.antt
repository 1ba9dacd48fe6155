-- One message to one module ("Result numbers"): refusal 5 comes last, measured against the reply that is due.
use Rattle.std.specs.Prelude.{ℕ, ◌≡◌, List, [], Option, Some, None, Result, Ok, Err, ltb, length, take, drop}
use Rattle.basis.specs.Choice.{choose}
use Rattle.basis.specs.Laid.{laid}
use Rattle.links.specs.Write.{written_if_there}
use Rattle.wire.specs.declared.kind.Message.{Message}
use Rattle.reply.specs.declared.due.Due.{Due}
use Rattle.reply.specs.declared.send.TooShort.{TooShort}
use Rattle.reply.specs.Reply.{reply_of}
use Rattle.results.specs.declared.Outcome.{Outcome}
use Rattle.results.specs.Number.{number_of}
use Rattle.module.specs.declared.state.Module.{Module}
use Rattle.module.specs.declared.deed.Write.{Write}
use Rattle.module.specs.declared.plan.Plan.{Plan}
use Rattle.module.specs.Change.{apply}
use Rattle.module.specs.Plan.{refused}
use Rattle.decide.specs.declared.rule.Ruling.{Ruling}
use Rattle.device.specs.declared.step.Answer.{Answer}
use Rattle.decide.specs.Ruling.{heard_by, ruling_by}

-- all that comes out of a call
pub record Step : Type 0 where
  pub outcome : Outcome
  pub reply : List ℕ
  pub read : ℕ
  pub next : Module
  pub links : List ℕ
  pub room : List ℕ

-- link memory afterwards: the bytes of a write are those from Data 6 on
abbrev pub links_after : List ℕ → List ℕ → Option Write → List ℕ
links_after l d None = l
links_after l d (Some write) = written_if_there l write.index (take write.count (drop 5 d))

-- result 5: nothing is sent and nothing altered; the count of the search is kept
abbrev pub short_of : Module → List ℕ → List ℕ → Ruling → Step
short_of m l room r = record { outcome = Outcome.NoRoom; reply = []; read = r.read; next = m; links = l; room = room }

-- the reply goes to the start of the room, and the bytes behind it stay
abbrev pub served_of : Module → List ℕ → List ℕ → List ℕ → List ℕ → Ruling → Step
served_of m l d room reply r =
    record {
      outcome = r.plan.outcome;
      reply = reply;
      read = r.read;
      next = apply r.plan.change m;
      links = links_after l d r.plan.writing;
      room = laid reply room;
    }

abbrev pub finish_of : Module → List ℕ → List ℕ → List ℕ → Ruling → Step
finish_of m l d room r =
    let reply : List ℕ = reply_of m.identity.address l r.plan.due in
    choose (ltb (length room) (length reply)) (short_of m l room r) (served_of m l d room reply r)

-- of a message as it was read
abbrev pub step_by : Module → List ℕ → Message → List ℕ → Step
step_by m l heard room = finish_of m l heard.«data» room (ruling_by m l heard)

abbrev pub step_of : Module → List ℕ → List ℕ → List ℕ → Step
step_of m l s room = step_by m l (heard_by m s) room

-- the plan that stands, by what sending the reply came to
abbrev pub if_sent : Result ℕ TooShort → Plan → Plan
if_sent (Ok n) decided = decided
if_sent (Err short) decided = refused Outcome.NoRoom Due.Nothing

-- what a call promises: its answer, the link memory and the room afterwards
pub record Comes (t : Step) (answer : Answer) (links after : List ℕ) : Type 0 where
  pub number : number_of answer.outcome ≡ number_of t.outcome
  pub outcome : answer.outcome ≡ t.outcome
  pub sent : answer.length ≡ length t.reply
  pub read : answer.read ≡ t.read
  pub next : answer.next ≡ t.next
  pub memory : links ≡ t.links
  pub room_after : after ≡ t.room

abbrev pub StepPromise : Module → List ℕ → List ℕ → List ℕ → Answer → List ℕ → List ℕ → Type 0
StepPromise m l s room answer links after = Comes (step_of m l s room) answer links after

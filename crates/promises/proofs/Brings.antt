-- A plan brings an effect about, and with room enough the step takes it.
use Prim.Native.Nat.{ℕ, ◌≤◌, ◌<◌}
use mathlib.Core.Path.{◌≡◌, refl}
use mathlib.Core.Bool.{true, false}
use mathlib.Core.List.{List, []}
use lib.Dec.{ltb}
use lib.ListN.{length}
use borrow.Author.Tests.{lt-ltb, le-ltb}
use Rattle.basis.specs.Choice.{choose}
use Rattle.wire.specs.Bytes.{data_of}
use Rattle.wire.specs.Reading.{well_formed}
use Rattle.wire.proofs.Heard.{heard}
use Rattle.reply.specs.declared.due.Due.{Due}
use Rattle.reply.specs.Reply.{reply_of}
use Rattle.results.specs.declared.Outcome.{Outcome}
use Rattle.results.specs.Number.{number_of}
use Rattle.module.specs.declared.state.Module.{Module}
use Rattle.module.specs.declared.plan.Plan.{Plan}
use Rattle.module.specs.Change.{apply}
use Rattle.module.specs.Plan.{refused}
use Rattle.decide.specs.Ruling.{heard_by, ruling_of}
use Rattle.device.specs.Step.{links_after, step_of}
use Rattle.promises.specs.Legal.{Effect, sends, Ends, Taken}
use Rattle.promises.specs.Room.{due_to}

pub record Brings (m : Module) (l s : List ℕ) (e : Effect) (p : Plan) : Type 0 where
  pub done : number_of p.outcome ≡ 0
  pub next : apply p.change m ≡ e.next
  pub links : links_after l (data_of s) p.writing ≡ e.links
  pub reply : reply_of m.identity.address l p.due ≡ e.reply

-- a plan comes to a number and an effect, whatever message it is for
pub record Comes (m : Module) (l s : List ℕ) (n : ℕ) (e : Effect) (p : Plan) : Type 0 where
  pub number : number_of p.outcome ≡ n
  pub next : apply p.change m ≡ e.next
  pub links : links_after l (heard_by m s).«data» p.writing ≡ e.links
  pub reply : reply_of m.identity.address l p.due ≡ e.reply

module _ (m : Module) (l s : List ℕ) where
  pub as_done : (e : Effect) (p : Plan) → well_formed s m.identity.address ≡ true → Brings m l s e p → Comes m l s 0 e p
  as_done e p w b = record { number = b.done; next = b.next; links = rw (heard s m.identity.address w) b.links; reply = b.reply }

  -- a refusal alters nothing
  pub refuses : (o : Outcome) (due : Due) → Comes m l s (number_of o) (sends m l (reply_of m.identity.address l due)) (refused o due)
  refuses o due = record { number = refl; next = refl; links = refl; reply = refl }

  -- so ends the step, where the reply fits
  pub ends : (room : List ℕ) (n : ℕ) (e : Effect) → length e.reply ≤ length room → Comes m l s n e (ruling_of m l s).plan → Ends room n e (step_of m l s room)
  unfolding choose
  ends room n e enough b =
      let fits : ltb (length room) (length (due_to m l s)) ≡ false = rw b.reply (le-ltb (length room) (length e.reply) enough) in
      record {
        result = rw fits b.number;
        next = rw fits b.next;
        links = rw fits b.links;
        reply = rw fits b.reply;
        room_after = rw (fits, b.reply);
      }

  -- and so where it does not
  pub ends_short : (room : List ℕ) (n : ℕ) (e : Effect) → length room < length e.reply → Comes m l s n e (ruling_of m l s).plan
      → Ends room 5 (sends m l []) (step_of m l s room)
  unfolding choose
  ends_short room n e less b =
      let short : ltb (length room) (length (due_to m l s)) ≡ true = rw b.reply (lt-ltb (length room) (length e.reply) less) in
      record { result = rw short; next = rw short; links = rw short; reply = rw short; room_after = rw short }

-- a well-formed message of any kind takes what its plan brings about
pub brought : (m : Module) (l s room : List ℕ) (e : Effect) (p : Plan)
    → well_formed s m.identity.address ≡ true → length e.reply ≤ length room
    → (ruling_of m l s).plan ≡ p → Brings m l s e p → Taken room e (step_of m l s room)
brought m l s room e p w enough is b = ends m l s room 0 e enough (rw is (as_done m l s e p w b))

-- and one that is refused ends with its number
pub numbered_by : (m : Module) (l s room : List ℕ) (o : Outcome) (due : Due) → (ruling_of m l s).plan ≡ refused o due
    → length (reply_of m.identity.address l due) ≤ length room → number_of (step_of m l s room).outcome ≡ number_of o
numbered_by m l s room o due is enough =
    (ends m l s room (number_of o) (sends m l (reply_of m.identity.address l due)) enough (rw is (refuses m l s o due))).result

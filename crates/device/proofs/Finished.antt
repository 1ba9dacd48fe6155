-- A call is finished by what sending its reply came to.
use Prim.Native.Nat.{ℕ}
use mathlib.Core.Path.{◌≡◌, refl, sym}
use mathlib.Core.Bool.{Bool, true, false}
use mathlib.Core.List.{List}
use lib.Dec.{ltb}
use lib.ListN.{length}
use Rattle.basis.specs.Choice.{choose}
use Rattle.basis.specs.Laid.{laid_if_fits}
use Rattle.wire.specs.declared.kind.Message.{Message}
use Rattle.std.specs.Prelude.{Result, Ok, Err}
use Rattle.std.specs.Result.{result_unwrap_or}
use Rattle.reply.specs.declared.send.TooShort.{TooShort}
use Rattle.reply.specs.Reply.{reply_of}
use Rattle.reply.specs.Sending.{sent_of, Sending}
use Rattle.results.specs.declared.Outcome.{Outcome}
use Rattle.module.specs.declared.state.Module.{Module}
use Rattle.module.specs.declared.plan.Plan.{Plan}
use Rattle.module.specs.Change.{apply}
use Rattle.decide.specs.declared.rule.Ruling.{Ruling}
use Rattle.decide.specs.Ruling.{ruling_by}
use Rattle.device.specs.Step.{links_after, if_sent, step_by, Comes}

-- what sending comes to: the length, or too short a room
abbrev Sent : Type 0
Sent = Result ℕ TooShort

apart : {A : Type 0} (x : TooShort) (n : ℕ) → ◌≡◌ {A = Sent} (Err x) (Ok n) → A
apart x n p = cc

whole_is : (n k : ℕ) → ◌≡◌ {A = Sent} (Ok n) (Ok k) → n ≡ k
whole_is n k p = cc

module _ (m : Module) (l : List ℕ) (heard : Message) (room : List ℕ) (r : Ruling) (e : r ≡ ruling_by m l heard) where
  -- the reply that is due
  abbrev due : List ℕ
  due = reply_of m.identity.address l r.plan.due

  -- too short a room: nothing has happened
  short : (after : List ℕ) → Sending due room (Err (record {})) after → Comes (step_by m l heard room) (record { outcome = Outcome.NoRoom; length = 0; read = r.read; next = m }) l after
  unfolding sent_of laid_if_fits choose
  short after p = go (ltb (length room) (length due)) refl
    where
      go : (t : Bool) → ltb (length room) (length due) ≡ t → Comes (step_by m l heard room) (record { outcome = Outcome.NoRoom; length = 0; read = r.read; next = m }) l after
      go true q = record { number = rw (← e, q); outcome = rw (← e, q); sent = rw (← e, q); read = rw (← e, q); next = rw (← e, q); memory = rw (← e, q); room_after = rw (← e, q) (rw q at p.leaves) }
      go false q = apart (record {}) (length due) (rw q at p.answers)

  -- room enough: all has happened that was decided
  whole : (n : ℕ) (next : Module) (links after : List ℕ)
      → next ≡ apply r.plan.change m
      → links ≡ links_after l heard.«data» r.plan.writing
      → Sending due room (Ok n) after
      → Comes (step_by m l heard room) (record { outcome = r.plan.outcome; length = n; read = r.read; next = next }) links after
  unfolding sent_of laid_if_fits choose
  whole n next links after x w p = go (ltb (length room) (length due)) refl
    where
      go : (t : Bool) → ltb (length room) (length due) ≡ t → Comes (step_by m l heard room) (record { outcome = r.plan.outcome; length = n; read = r.read; next = next }) links after
      go true q = apart (record {}) n (sym (rw q at p.answers))
      go false q =
          let long : n ≡ length due = whole_is n (length due) (rw q at p.answers) in
          record {
            number = rw (← e, q);
            outcome = rw (← e, q);
            sent = rw (← e, q) long;
            read = rw (← e, q);
            next = rw (← e, q) x;
            memory = rw (← e, q) w;
            room_after = rw (← e, q) (rw q at p.leaves);
          }

  -- whatever it came to
  pub finished : (sent : Sent) (after : List ℕ) → Sending due room sent after → (plan : Plan) → plan ≡ if_sent sent r.plan → (next : Module) → next ≡ apply plan.change m
      → (links : List ℕ) → links ≡ links_after l heard.«data» plan.writing
      → Comes (step_by m l heard room) (record { outcome = plan.outcome; length = result_unwrap_or sent 0; read = r.read; next = next }) links after
  finished (Err x') after p plan q next x links w = rw q (rw (rw q at x, rw q at w) (short after p))
  finished (Ok n) after p plan q next x links w = rw q (whole n next links after (rw q at x) (rw q at w) p)

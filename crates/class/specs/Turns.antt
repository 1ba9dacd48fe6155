-- How the row is walked, turn after turn: first every seat's address is noted, then seats are served. What comes of it is `Class`.
use Rattle.std.specs.Prelude.{ℕ, ◌+◌, ◌*◌, ◌≤◌, ◌<◌, ◌≡◌, List, ltb, length, set}
use Rattle.basis.specs.Choice.{choose}
use Rattle.wire.specs.declared.address.Address.{Address}
use Rattle.wire.specs.declared.kind.Message.{Message}
use Rattle.module.specs.declared.state.Module.{Module}
use Rattle.device.specs.declared.step.Answer.{Answer}
use Rattle.device.specs.Step.{Step, step_by}
use Rattle.row.specs.declared.progress.ClassAnswer.{ClassAnswer}
use Rattle.row.specs.declared.progress.Round.{Round}
use Rattle.row.specs.declared.progress.Progress.{Progress}
use Rattle.row.specs.Answer.{of_seat, and_seat}
use Rattle.row.specs.Round.{ended, settled}
use Rattle.class.specs.declared.turn.Tended.{Tended}
use Rattle.class.specs.Seat.{share_at, with_share}

-- ---- the first round

-- one address more
abbrev pub named : Progress → Address → Progress
named t a = record { seat = t.seat + 1; answer = t.answer; round = t.round; names = set t.names t.seat a; task = t.task }

abbrev pub noted : Progress → Address → Progress
noted t a = choose (ltb (t.seat + 1) t.task.seats) (named t a) (settled (named t a))

abbrev pub note : Module → Progress → Tended
note m t = record { next = m; progress = noted t m.identity.address }

-- ---- the second round

-- the seat's own step, with its own share, which goes back to its place
abbrev pub step_in : Module → Progress → Message → List ℕ → List ℕ → Step
step_in m t heard l room =
    let x : Step = step_by m (share_at t.task.share t.seat l) heard room in
    record {
      outcome = x.outcome;
      reply = x.reply;
      read = x.read;
      next = x.next;
      links = with_share t.task.share t.seat x.links l;
      room = x.room;
    }

abbrev pub answer_of : Step → Answer
answer_of x = record { outcome = x.outcome; length = length x.reply; read = x.read; next = x.next }

-- one seat alone
abbrev pub served : Progress → Answer → Tended
served t a =
    record { next = a.next; progress = ended t (of_seat t.seat a.outcome a.length a.read) }

-- one of all: the records read are those of all
abbrev pub with_seat : ClassAnswer → Answer → ClassAnswer
with_seat before a = and_seat before a.outcome (before.read + a.read)

abbrev pub offered : Progress → Answer → Tended
offered t a =
    record {
      next = a.next;
      progress = record { seat = t.seat + 1; answer = with_seat t.answer a; round = t.round; names = t.names; task = t.task };
    }

-- ---- a turn

-- the row's progress, the seat's module, link memory and room afterwards
pub record Turn : Type 0 where
  pub progress : Progress
  pub next : Module
  pub links : List ℕ
  pub room : List ℕ

abbrev pub turned : Tended → List ℕ → List ℕ → Turn
turned a l room = record { progress = a.progress; next = a.next; links = l; room = room }

abbrev pub step_turn : (Answer → Tended) → Step → Turn
step_turn goes x = turned (goes (answer_of x)) x.links x.room

abbrev pub turn_by : Round → Module → Progress → Message → List ℕ → List ℕ → Turn
turn_by Round.Note m t heard l room = turned (note m t) l room
turn_by Round.One m t heard l room = step_turn (served t) (step_in m t heard l room)
turn_by Round.All m t heard l room = step_turn (offered t) (step_in m t heard l room)

abbrev pub turn_of : Module → Progress → Message → List ℕ → List ℕ → Turn
turn_of m t heard l room = turn_by t.round m t heard l room

-- what a turn asks of the progress, with so many bytes of link memory
pub record Ready (t : Progress) (bytes : ℕ) : Type 0 where
  pub inside : t.seat < t.task.seats
  pub few : t.task.seats ≤ 16
  pub own : t.seat * t.task.share + t.task.share ≤ bytes
  pub counted : t.answer.read ≤ 4096

-- what a turn promises
pub record Took (x : Turn) (progress : Progress) (next : Module) (links room : List ℕ) : Type 0 where
  pub went : progress ≡ x.progress
  pub stays : next ≡ x.next
  pub memory : links ≡ x.links
  pub room_after : room ≡ x.room

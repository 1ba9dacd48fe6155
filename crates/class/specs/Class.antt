-- One message to the class (document 02, "One bench for a class").
use Rattle.std.specs.Prelude.{ℕ, zero, suc, ◌+◌, ◌/◌, ◌≡◌, Bool, false, ◌||◌, List, [], eqb, ltb, length, set}
use Rattle.basis.specs.Choice.{choose}
use Rattle.wire.specs.Bytes.{to_of, is_whole}
use Rattle.wire.specs.Kinds.{is_broadcast, is_unheard}
use Rattle.results.specs.declared.Outcome.{Outcome}
use Rattle.results.specs.Number.{number_of}
use Rattle.module.specs.declared.state.Module.{Module}
use Rattle.device.specs.Step.{Step, step_of}
use Rattle.row.specs.declared.outcome.ClassOutcome.{ClassOutcome}
use Rattle.row.specs.declared.progress.Whom.{Whom}
use Rattle.row.specs.declared.progress.ClassAnswer.{ClassAnswer}
use Rattle.row.specs.Number.{class_number_of}
use Rattle.row.specs.Row.{is_row_fit, seat_named, is_doubled}
use Rattle.class.specs.Seat.{seat_at, name_at, share_at, with_share}

-- all that comes out of a call; whom it was for is as far as it was served
pub record ClassStep : Type 0 where
  pub outcome : ClassOutcome
  pub reply : List ℕ
  pub read : ℕ
  pub whom : Whom
  pub row : List Module
  pub links : List ℕ
  pub room : List ℕ

-- nothing is sent and nothing altered: it was for nobody
abbrev pub refused_by : ClassOutcome → List Module → List ℕ → List ℕ → ClassStep
refused_by outcome row l room = record { outcome = outcome; reply = []; read = 0; whom = Whom.Nobody; row = row; links = l; room = room }

-- what seat i makes of a message, with its own share of w bytes
abbrev pub seat_step : ℕ → List Module → List ℕ → List ℕ → List ℕ → ℕ → Step
seat_step w row l s room i = step_of (seat_at row i) (share_at w i l) s room

-- direct or cleanup: seat i alone
abbrev pub served_at : ℕ → List Module → List ℕ → List ℕ → List ℕ → ℕ → ClassStep
served_at w row l s room i =
    let t : Step = seat_step w row l s room i in
    record {
      outcome = ClassOutcome.Single t.outcome;
      reply = t.reply;
      read = t.read;
      whom = Whom.Seat i;
      row = set row i t.next;
      links = with_share w i t.links l;
      room = t.room;
    }

abbrev pub addressed_to : ℕ → List Module → List ℕ → List ℕ → List ℕ → ClassStep
addressed_to w row l s room =
    let i : ℕ = seat_named (name_at row) (length row) (to_of s) in
    choose (ltb i (length row)) (served_at w row l s room i) (refused_by ClassOutcome.NoSeat row l room)

-- a broadcast on its way along the row
pub record Heard : Type 0 where
  pub acted : Bool
  pub read : ℕ
  pub row : List Module
  pub links : List ℕ
  pub room : List ℕ

abbrev pub heard_at : ℕ → List ℕ → ℕ → Heard → Heard
heard_at w s i x =
    let t : Step = seat_step w x.row x.links s x.room i in
    record {
      acted = x.acted || eqb (number_of t.outcome) 0;
      read = x.read + t.read;
      row = set x.row i t.next;
      links = with_share w i t.links x.links;
      room = t.room;
    }

-- k seats from seat i on, in row order
unfoldable pub heard_from : ℕ → List ℕ → ℕ → ℕ → Heard → Heard
heard_from w s zero i x = x
heard_from w s (suc k) i x = heard_from w s k (i + 1) (heard_at w s i x)

-- 0 where any seat acted, else 8; nothing is sent
abbrev pub offered_to : Heard → ClassStep
offered_to x =
    record {
      outcome = ClassOutcome.Single (choose x.acted Outcome.Done Outcome.Unconcerned);
      reply = [];
      read = x.read;
      whom = Whom.All;
      row = x.row;
      links = x.links;
      room = x.room;
    }

abbrev pub broadcast_to : ℕ → List Module → List ℕ → List ℕ → List ℕ → ClassStep
broadcast_to w row l s room =
    offered_to (heard_from w s (length row) 0 (record { acted = false; read = 0; row = row; links = l; room = room }))

-- refusals 11, 9, 1, 3, 10, in this order; then the seat's own
unfoldable pub class_of : List Module → List ℕ → List ℕ → List ℕ → ClassStep
class_of row l s room =
    let w : ℕ = length l / length row in
    choose (is_row_fit (length row) (length l))
    (choose (is_doubled (name_at row) (length row)) (refused_by ClassOutcome.Doubled row l room)
    (choose (is_whole s)
    (choose (is_unheard s) (refused_by (ClassOutcome.Single Outcome.Foreign) row l room)
    (choose (is_broadcast s) (broadcast_to w row l s room) (addressed_to w row l s room)))
    (refused_by (ClassOutcome.Single Outcome.BadLength) row l room)))
    (refused_by ClassOutcome.Unfit row l room)

-- what a call promises: its answer, the row, link memory and room afterwards
pub record ClassComes (t : ClassStep) (answer : ClassAnswer) (row : List Module) (links room : List ℕ) : Type 0 where
  pub number : class_number_of answer.outcome ≡ class_number_of t.outcome
  pub outcome : answer.outcome ≡ t.outcome
  pub sent : answer.length ≡ length t.reply
  pub read : answer.read ≡ t.read
  pub whom : answer.whom ≡ t.whom
  pub seats : row ≡ t.row
  pub memory : links ≡ t.links
  pub room_after : room ≡ t.room

-- Demands 3 and 2 for each module alone: its share, and the messages addressed or offered to it (document 02, "One bench for a class").
use Rattle.std.specs.Prelude.{ℕ, ◌≤◌, ◌<◌, ◌≡◌, true, false, List, ◌↔◌, length}
use Rattle.basis.specs.Laid.{laid}
use Rattle.wire.specs.Bytes.{from_of, hops_of, command1_of}
use Rattle.wire.specs.Kinds.{is_direct}
use Rattle.wire.specs.Reading.{well_formed}
use Rattle.reply.specs.declared.due.ReplyType.{ReplyType}
use Rattle.reply.specs.Message.{standard}
use Rattle.device.specs.Step.{Step}
use Rattle.device.specs.Run.{Call, run_of, end_of}
use Rattle.row.specs.Number.{class_number_of}
use Rattle.class.specs.Seat.{seat_at, name_at}
use Rattle.promises.specs.Room.{due_to}
use Rattle.promises.specs.Demand3.{Stranger, ping_or_id, Struck}
use Rattle.promises.specs.Legal.{Effect, FromLinked}
use Rattle.promises.specs.LegalAny.{Legal}
use Rattle.apart.specs.Lesson.{Class, Seated, tell, leaves, after_all, alone, is_for}
use Rattle.apart.specs.Heart.{Meant}

-- a well-formed direct command to seat i draws NAK FF exactly when it is neither ping nor ID request and its sender a stranger of the seat's share
abbrev pub SeatNakExactly : Type 0
SeatNakExactly =
    (c : Class) → Seated c → (x : Call) (i : ℕ) → i < length c.row →
    well_formed x.message (name_at c.row i) ≡ true → is_direct x.message ≡ true →
    length (due_to (seat_at c.row i) (alone c i).links x.message) ≤ length x.room →
    ((tell c x).reply ≡ standard (name_at c.row i) (from_of x.message) ReplyType.Nak (hops_of x.message) (command1_of x.message) 0xff)
    ↔ ((ping_or_id x.message ≡ false) × Stranger (alone c i).links x.message)

-- to a stranger of both shares two seats of equal identity, in one class or in two, send equal bytes
abbrev pub SeatLearnsNothing : Type 0
SeatLearnsNothing =
    (c d : Class) → Seated c → Seated d → (x : Call) (i j : ℕ) → i < length c.row → j < length d.row →
    (seat_at c.row i).identity ≡ (seat_at d.row j).identity → is_for (name_at c.row i) x.message ≡ true →
    Stranger (alone c i).links x.message → Stranger (alone d j).links x.message →
    ((tell c x).reply ≡ (tell d x).reply) × ((tell c x).room ≡ (tell d x).room)

-- of the messages for seat i all those whose sender was a stranger of its share on arrival can be struck out
abbrev pub SeatUnmissed : Type 0
SeatUnmissed =
    (c : Class) → Seated c → (i : ℕ) → i < length c.row → (xs kept left : List Call) (steps given : List Step) →
    Meant i c xs kept steps → Struck (alone c i) kept left given →
    (run_of (alone c i) left ≡ given) × (end_of (alone c i) left ≡ alone (after_all c xs) i)

-- every legal direct command of a sender linked in the share takes its stated effect
pub record SeatTaken (c : Class) (x : Call) (i : ℕ) (e : Effect) : Type 0 where
  pub result : class_number_of (tell c x).outcome ≡ 0
  pub left : alone (leaves (tell c x)) i ≡ record { device = e.next; links = e.links }
  pub reply : (tell c x).reply ≡ e.reply
  pub room : (tell c x).room ≡ laid e.reply x.room

abbrev pub SeatTakesEffect : Type 0
SeatTakesEffect =
    (c : Class) → Seated c → (x : Call) (i : ℕ) → i < length c.row → (e : Effect) →
    FromLinked (seat_at c.row i) (alone c i).links x.message → length e.reply ≤ length x.room →
    Legal (seat_at c.row i) (alone c i).links x.message e → SeatTaken c x i e

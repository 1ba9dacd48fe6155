-- Each seat runs as if alone: one message (document 02, "One bench for a class").
use Rattle.std.specs.Prelude.{ℕ, ◌<◌, ◌≡◌, Bool, true, false, List, [], eqb, length}
use Rattle.basis.specs.Choice.{choose}
use Rattle.wire.specs.Kinds.{is_broadcast}
use Rattle.results.specs.declared.Outcome.{Outcome}
use Rattle.results.specs.Number.{number_of}
use Rattle.module.specs.Module.{kind_of}
use Rattle.device.specs.Step.{Step}
use Rattle.device.specs.Run.{Call, call_of, left_by}
use Rattle.row.specs.declared.outcome.ClassOutcome.{ClassOutcome}
use Rattle.class.specs.Seat.{seat_at, name_at}
use Rattle.class.specs.Class.{ClassStep}
use Rattle.apart.specs.Lesson.{Class, Seated, tell, leaves, alone, is_for, sum_from, any_from}

-- whatever the message, every seat's module and share become what they become alone
abbrev pub TakenAlone : Type 0
TakenAlone =
    (c : Class) → Seated c → (x : Call) (i : ℕ) → i < length c.row →
    alone (leaves (tell c x)) i ≡ left_by (call_of (alone c i) x)

-- and a message for somebody else leaves them as they were
abbrev pub LeftAlone : Type 0
LeftAlone = (c : Class) (x : Call) (i : ℕ) → is_for (name_at c.row i) x.message ≡ false → left_by (call_of (alone c i) x) ≡ alone c i

-- direct or cleanup: the class answers what the seat alone answers
pub record Answers (t : ClassStep) (y : Step) : Type 0 where
  pub outcome : t.outcome ≡ ClassOutcome.Single y.outcome
  pub reply : t.reply ≡ y.reply
  pub read : t.read ≡ y.read
  pub room : t.room ≡ y.room

abbrev pub AnsweredAlone : Type 0
AnsweredAlone =
    (c : Class) → Seated c → (x : Call) (i : ℕ) → i < length c.row →
    is_for (name_at c.row i) x.message ≡ true → is_broadcast x.message ≡ false → Answers (tell c x) (call_of (alone c i) x)

-- a seat carries a message out, alone
abbrev pub acts_alone : Class → Call → ℕ → Bool
acts_alone c x i = eqb (number_of (call_of (alone c i) x).outcome) 0

-- a broadcast: nothing is sent; what the seats alone read is added up; 0 where any of them acts, else 8
pub record Offers (c : Class) (x : Call) : Type 0 where
  pub reply : (tell c x).reply ≡ []
  pub room : (tell c x).room ≡ x.room
  pub read : (tell c x).read ≡ sum_from (λ (i : ℕ). (call_of (alone c i) x).read) (length c.row) 0
  pub outcome : (tell c x).outcome
      ≡ ClassOutcome.Single (choose (any_from (acts_alone c x) (length c.row) 0) Outcome.Done Outcome.Unconcerned)

abbrev pub OfferedToAll : Type 0
OfferedToAll =
    (c : Class) → Seated c → (x : Call) (i : ℕ) → i < length c.row →
    is_for (name_at c.row i) x.message ≡ true → is_broadcast x.message ≡ true → Offers c x

-- who sits where, of what kind, and how much room there is stays
pub record Stays (c d : Class) : Type 0 where
  pub seats : length d.row ≡ length c.row
  pub bytes : length d.links ≡ length c.links
  pub names : (i : ℕ) → i < length c.row → name_at d.row i ≡ name_at c.row i
  pub kinds : (i : ℕ) → i < length c.row → kind_of (seat_at d.row i).load ≡ kind_of (seat_at c.row i).load
  -- and so does whom a message is for
  pub answers : (i : ℕ) → i < length c.row → (s : List ℕ) → is_for (name_at d.row i) s ≡ is_for (name_at c.row i) s
  pub seated : Seated d

abbrev pub RowStays : Type 0
RowStays = (c : Class) → Seated c → (x : Call) → Stays c (leaves (tell c x))

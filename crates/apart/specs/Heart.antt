-- Each seat runs as if alone: any sequence of messages, and the quiet pupil (document 02, "One bench for a class").
use Rattle.std.specs.Prelude.{ℕ, ◌<◌, ◌≡◌, true, false, List, [], ◌∷◌, length}
use Rattle.wire.specs.Kinds.{is_broadcast}
use Rattle.device.specs.Step.{Step}
use Rattle.device.specs.Run.{Call, left_by, run_of, end_of}
use Rattle.class.specs.Seat.{name_at}
use Rattle.class.specs.Class.{Heard, seat_step, heard_from}
use Rattle.apart.specs.Lesson.{Class, Seated, tell, leaves, after_all, width, alone, is_for}
use Rattle.apart.specs.Alone.{Answers, Stays}

-- what seat i contributes to a broadcast: its step where the broadcast reaches it
abbrev pub contributes : Class → Call → ℕ → Step
contributes c x i =
    let h : Heard = heard_from (width c) x.message i 0 (record { acted = false; read = 0; row = c.row; links = c.links; room = x.room }) in
    seat_step (width c) h.row h.links x.message h.room i

-- what a message gives seat i: the class's answer with the module and share that are left, or its part of a broadcast
pub data Gives (c : Class) (x : Call) (i : ℕ) (y : Step) : Type 0 where
  answer : is_broadcast x.message ≡ false → Answers (tell c x) y → alone (leaves (tell c x)) i ≡ left_by y → Gives c x i y
  part : is_broadcast x.message ≡ true → contributes c x i ≡ y → Gives c x i y

-- a sequence of messages to the class, those of them that are for seat i, and what these give it
pub data Meant (i : ℕ) : Class → List Call → List Call → List Step → Type 0 where
  none : {c : Class} → Meant i c [] [] []
  ours : {c : Class} {x : Call} {xs kept : List Call} {y : Step} {steps : List Step}
      → is_for (name_at c.row i) x.message ≡ true
      → Gives c x i y
      → Meant i (leaves (tell c x)) xs kept steps
      → Meant i c (x ∷ xs) (x ∷ kept) (y ∷ steps)
  others : {c : Class} {x : Call} {xs kept : List Call} {steps : List Step}
      → is_for (name_at c.row i) x.message ≡ false
      → Meant i (leaves (tell c x)) xs kept steps
      → Meant i c (x ∷ xs) kept steps

-- every sequence can be so parted
pub record Parted (i : ℕ) (c : Class) (xs : List Call) : Type 0 where
  pub kept : List Call
  pub steps : List Step
  pub meant : Meant i c xs kept steps

abbrev pub AlwaysParted : Type 0
AlwaysParted = (c : Class) → Seated c → (i : ℕ) → i < length c.row → (xs : List Call) → Parted i c xs

-- each seat runs as if alone
abbrev pub RunsAlone : Type 0
RunsAlone =
    (c : Class) → Seated c → (i : ℕ) → i < length c.row → (xs kept : List Call) (steps : List Step) → Meant i c xs kept steps →
    (run_of (alone c i) kept ≡ steps) × (end_of (alone c i) kept ≡ alone (after_all c xs) i)

-- the same addresses in the same order, and link memories of one length
pub record SameRow (c d : Class) : Type 0 where
  pub seats : length d.row ≡ length c.row
  pub bytes : length d.links ≡ length c.links
  pub names : (i : ℕ) → i < length c.row → name_at d.row i ≡ name_at c.row i

-- the quiet pupil: whatever the other seats hold and are sent, at any places between
abbrev pub QuietPupil : Type 0
QuietPupil =
    (c d : Class) → Seated c → SameRow c d → (i : ℕ) → i < length c.row → alone c i ≡ alone d i →
    (xs ys kept : List Call) (steps others : List Step) → Meant i c xs kept steps → Meant i d ys kept others →
    (steps ≡ others) × (alone (after_all c xs) i ≡ alone (after_all d ys) i)

-- addresses, kinds and whom a message is for stay, message after message
abbrev pub RowAlwaysStays : Type 0
RowAlwaysStays = (c : Class) → Seated c → (xs : List Call) → Stays c (after_all c xs)

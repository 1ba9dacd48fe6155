-- A refusal alters nothing (demand 1, for the class).
use Rattle.std.specs.Prelude.{ℕ, ◌<◌, ◌≡◌, Bool, true, ◌||◌, List, [], length}
use Rattle.basis.specs.Laid.{laid}
use Rattle.basis.specs.Numbers.{within}
use Rattle.wire.specs.Bytes.{to_of}
use Rattle.device.specs.Run.{Call}
use Rattle.row.specs.Number.{class_number_of}
use Rattle.class.specs.Seat.{seat_at, name_at}
use Rattle.class.specs.Class.{ClassStep}
use Rattle.promises.specs.Demand1.{nak_of}
use Rattle.apart.specs.Lesson.{Class, tell, leaves}

-- 1 to 5, and 8 to 11
abbrev pub is_silent : ℕ → Bool
is_silent number = within 1 5 number || within 8 11 number

-- these bytes are sent, and the room holds them and its old rest; every module and all link memory stay
pub record Stands (c : Class) (x : Call) (bytes : List ℕ) (t : ClassStep) : Type 0 where
  pub stays : leaves t ≡ c
  pub reply : t.reply ≡ bytes
  pub room : t.room ≡ laid bytes x.room

-- what each number means for row, link memory and room
pub data ClassFate (c : Class) (x : Call) (t : ClassStep) : Type 0 where
  carried-out : class_number_of t.outcome ≡ 0 → ClassFate c x t
  silent : is_silent (class_number_of t.outcome) ≡ true → Stands c x [] t → ClassFate c x t
  -- the NAK of the seat that it is for
  not-linked : (i : ℕ) → i < length c.row → name_at c.row i ≡ to_of x.message
      → class_number_of t.outcome ≡ 6 → Stands c x (nak_of (seat_at c.row i) x.message 0xff) t → ClassFate c x t
  not_listed : (i : ℕ) → i < length c.row → name_at c.row i ≡ to_of x.message
      → class_number_of t.outcome ≡ 7 → Stands c x (nak_of (seat_at c.row i) x.message 0xfb) t → ClassFate c x t

-- of every row, link memory, message and room
abbrev pub AlwaysClassFated : Type 0
AlwaysClassFated = (c : Class) (x : Call) → ClassFate c x (tell c x)

-- Result numbers of the class: 11, 9, 1, 3, 10, in this order, then the seat's own (document 02, "One bench for a class").
use Rattle.std.specs.Prelude.{ℕ, ◌%◌, ◌≤◌, ◌<◌, ◌≡◌, true, false, List, [], length}
use Rattle.wire.specs.Bytes.{to_of, is_extended}
use Rattle.wire.specs.Kinds.{is_direct, is_cleanup, is_broadcast}
use Rattle.results.specs.declared.Outcome.{Outcome}
use Rattle.device.specs.Run.{Call}
use Rattle.row.specs.declared.outcome.ClassOutcome.{ClassOutcome}
use Rattle.row.specs.Number.{class_number_of}
use Rattle.class.specs.Seat.{name_at}
use Rattle.promises.specs.Numbers.{When1}
use Rattle.apart.specs.Lesson.{Class, tell, leaves, width}

-- 11: row empty or over sixteen, or shares unequal or unfit
pub data When11 (c : Class) : Type 0 where
  no-seat : length c.row ≡ 0 → When11 c
  too_many : 16 < length c.row → When11 c
  unequal : ¬ (length c.links % length c.row ≡ 0) → When11 c
  no-share : width c ≡ 0 → When11 c
  long-share : 2048 < width c → When11 c
  odd-share : ¬ (width c % 8 ≡ 0) → When11 c

-- 9: two modules with one address
pub record When9 (c : Class) : Type 0 where
  pub one : ℕ
  pub other : ℕ
  pub apart : one < other
  pub inside : other < length c.row
  pub same : name_at c.row one ≡ name_at c.row other

-- the other causes of 3: another type; extended but not direct
pub data Unheard (s : List ℕ) : Type 0 where
  other-type : is_direct s ≡ false → is_cleanup s ≡ false → is_broadcast s ≡ false → Unheard s
  long-not-direct : is_extended s ≡ true → is_direct s ≡ false → Unheard s

-- 10: no module has that To address
abbrev pub When10 : Class → List ℕ → Type 0
When10 c s = (is_broadcast s ≡ false) × ((i : ℕ) → i < length c.row → ¬ (name_at c.row i ≡ to_of s))

-- refused by the row: that number, nothing sent and nothing altered
pub record Refused (c : Class) (x : Call) (o : ClassOutcome) : Type 0 where
  pub outcome : (tell c x).outcome ≡ o
  pub reply : (tell c x).reply ≡ []
  pub read : (tell c x).read ≡ 0
  pub stays : leaves (tell c x) ≡ c
  pub room : (tell c x).room ≡ x.room

pub record InOrder (c : Class) (x : Call) : Type 0 where
  pub eleven : When11 c → Refused c x ClassOutcome.Unfit
  pub nine : ¬ When11 c → When9 c → Refused c x ClassOutcome.Doubled
  pub one : ¬ When11 c → ¬ When9 c → When1 x.message → Refused c x (ClassOutcome.Single Outcome.BadLength)
  pub three : ¬ When11 c → ¬ When9 c → ¬ When1 x.message → Unheard x.message → Refused c x (ClassOutcome.Single Outcome.Foreign)
  pub ten : ¬ When11 c → ¬ When9 c → ¬ When1 x.message → ¬ Unheard x.message → When10 c x.message → Refused c x ClassOutcome.NoSeat

abbrev pub RefusedInOrder : Type 0
RefusedInOrder = (c : Class) (x : Call) → InOrder c x

-- the numbers are 0 to 11
abbrev pub ClassNumbered : Type 0
ClassNumbered = (o : ClassOutcome) → class_number_of o ≤ 11

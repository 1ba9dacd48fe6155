-- The turns that are left of a message, down to what the class promises.
use Prim.Native.Nat.{ℕ, zero, suc, ◌≤◌, ◌<◌}
use mathlib.Core.Path.{◌≡◌, refl, ap}
use mathlib.Core.List.{List}
use native.Mathlib.Omega.{arith}
use lib.Dec.{ltb}
use lib.ListN.{length, set}
use borrow.Author.Tests.{lt-ltb, le-ltb}
use Rattle.basis.specs.Choice.{choose}
use Rattle.wire.specs.declared.kind.Message.{Message}
use Rattle.module.specs.declared.state.Module.{Module}
use Rattle.row.specs.declared.progress.Progress.{Progress}
use Rattle.class.specs.Seat.{seat_at}
use Rattle.class.specs.Class.{ClassStep, ClassComes}
use Rattle.class.specs.Turns.{Turn, turn_of, Ready}

module _ (target : ClassStep) (heard : Message) (bytes : ℕ) where
  -- k turns are left, each of which can be made
  pub Runs : ℕ → List Module → Progress → List ℕ → List ℕ → Type 0
  Runs zero xs t ls rs = (length xs ≤ t.seat) × ClassComes target t.answer xs ls rs
  Runs (suc k) xs t ls rs =
      (t.seat < length xs) × Ready t bytes
      × (let x : Turn = turn_of (seat_at xs t.seat) t heard ls rs in Runs k (set xs t.seat x.next) x.progress x.links x.room)

  -- some number of turns
  pub record Goes (xs : List Module) (t : Progress) (ls rs : List ℕ) : Type 0 where
    pub left : ℕ
    pub runs : Runs left xs t ls rs

  -- a turn is left where the seat is inside
  pub record Next (k : ℕ) (xs : List Module) (t : Progress) (ls rs : List ℕ) : Type 0 where
    pub left : ℕ
    pub fewer : left < k
    pub ready : Ready t bytes
    pub runs : (let x : Turn = turn_of (seat_at xs t.seat) t heard ls rs in Runs left (set xs t.seat x.next) x.progress x.links x.room)

  pub next : (k : ℕ) (xs : List Module) (t : Progress) (ls rs : List ℕ) → Runs k xs t ls rs → t.seat < length xs → Next k xs t ls rs
  unfolding Runs
  next zero xs t ls rs r inside = absurd (omega (arith, r.0, inside))
  next (suc k) xs t ls rs r inside = record { left = k; fewer = omega arith; ready = r.1; runs = r.2 }

  -- and none where it is past the row
  pub over : (k : ℕ) (xs : List Module) (t : Progress) (ls rs : List ℕ) → Runs k xs t ls rs → length xs ≤ t.seat → ClassComes target t.answer xs ls rs
  unfolding Runs
  over zero xs t ls rs r past = r.1
  over (suc k) xs t ls rs r past = absurd (omega (arith, r.0, past))

  pub ends : (xs : List Module) (t : Progress) (ls rs : List ℕ) → length xs ≤ t.seat → ClassComes target t.answer xs ls rs → Goes xs t ls rs
  unfolding Runs
  ends xs t ls rs past comes = record { left = 0; runs = (past, comes) }

  pub goes_on : (xs : List Module) (t : Progress) (ls rs : List ℕ) → t.seat < length xs → Ready t bytes
      → (let x : Turn = turn_of (seat_at xs t.seat) t heard ls rs in Goes (set xs t.seat x.next) x.progress x.links x.room) → Goes xs t ls rs
  unfolding Runs
  goes_on xs t ls rs inside ready g = record { left = suc g.left; runs = (inside, ready, g.runs) }

-- as many turns as are left of at most f
unfoldable pub turns : Message → ℕ → List Module → Progress → List ℕ → List ℕ → ℕ
turns heard zero xs t ls rs = 0
turns heard (suc f) xs t ls rs =
    choose (ltb t.seat (length xs))
    (let x : Turn = turn_of (seat_at xs t.seat) t heard ls rs in suc (turns heard f (set xs t.seat x.next) x.progress x.links x.room))
    0

pub counted : (target : ClassStep) (heard : Message) (bytes f k : ℕ) (xs : List Module) (t : Progress) (ls rs : List ℕ) → k ≤ f
    → Runs target heard bytes k xs t ls rs → turns heard f xs t ls rs ≡ k
unfolding Runs turns choose
counted target heard bytes zero zero xs t ls rs h r = refl
counted target heard bytes zero (suc k) xs t ls rs h r = absurd (omega (arith, h))
counted target heard bytes (suc f) zero xs t ls rs h r = rw (le-ltb t.seat (length xs) r.0)
counted target heard bytes (suc f) (suc k) xs t ls rs h r =
    rw (lt-ltb t.seat (length xs) r.0) (ap suc (counted target heard bytes f k _ _ _ _ (omega (arith, h)) r.2))

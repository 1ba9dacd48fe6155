-- No message alters who sits where, nor of what kind.
use Prim.Native.Nat.{ℕ, zero, suc, ◌+◌, ◌/◌}
use mathlib.Core.Path.{◌≡◌, refl, ◌∙◌, ap}
use mathlib.Core.List.{List, [], ◌∷◌}
use lib.ListN.{length, set}
use Rattle.basis.proofs.Choice.{either}
use Rattle.module.specs.declared.state.Module.{Module}
use Rattle.module.specs.Module.{kind_of}
use Rattle.device.proofs.Lasting.{same_identity, same_kind}
use Rattle.class.specs.Seat.{seat_at, share_at}
use Rattle.class.specs.Class.{ClassStep, Heard, seat_step, heard_at, heard_from, class_of}

-- seat by seat one identity and one kind
pub data SameSeats : List Module → List Module → Type 0 where
  none : SameSeats [] []
  next : {m x : Module} {row other : List Module}
      → m.identity ≡ x.identity
      → kind_of m.load ≡ kind_of x.load
      → SameSeats row other
      → SameSeats (m ∷ row) (x ∷ other)

pub as_many : (row other : List Module) → SameSeats row other → length row ≡ length other
as_many [] [] none = refl
as_many [] (x ∷ other) h = elim h [ ]
as_many (m ∷ row) [] h = elim h [ ]
as_many (m ∷ row) (x ∷ other) (next e k rest) = ap suc (as_many row other rest)

same : (row : List Module) → SameSeats row row
same [] = none
same (m ∷ row) = next refl refl (same row)

join : (a b c : List Module) → SameSeats a b → SameSeats b c → SameSeats a c
join [] [] [] none none = none
join [] [] (z ∷ c) h k = elim k [ ]
join [] (y ∷ b) c h k = elim h [ ]
join (x ∷ a) [] c h k = elim h [ ]
join (x ∷ a) (y ∷ b) [] h k = elim k [ ]
join (x ∷ a) (y ∷ b) (z ∷ c) (next e k p) (next f h q) = next (e ∙ f) (k ∙ h) (join a b c p q)

at_seat : (row : List Module) (i : ℕ) (m : Module) → m.identity ≡ (seat_at row i).identity → kind_of m.load ≡ kind_of (seat_at row i).load
    → SameSeats (set row i m) row
at_seat [] i m e k = none
at_seat (x ∷ row) zero m e k = next e k (same row)
at_seat (x ∷ row) (suc i) m e k = next refl refl (at_seat row i m e k)

-- a seat's own step leaves it what it was
stepped : (w : ℕ) (row : List Module) (l s room : List ℕ) (i : ℕ) → SameSeats (set row i (seat_step w row l s room i).next) row
stepped w row l s room i =
    at_seat row i _ (same_identity (seat_at row i) (share_at w i l) s room) (same_kind (seat_at row i) (share_at w i l) s room)

heard : (w : ℕ) (s : List ℕ) (k i : ℕ) (x : Heard) → SameSeats (heard_from w s k i x).row x.row
unfolding heard_from
heard w s zero i x = same x.row
heard w s (suc k) i x = join _ _ _ (heard w s k (i + 1) (heard_at w s i x)) (stepped w x.row x.links s x.room i)

pub same_seats : (row : List Module) (l s room : List ℕ) → SameSeats (class_of row l s room).row row
unfolding class_of
same_seats row l s room =
    let w : ℕ = length l / length row in
    let P : ClassStep → Type 0 = λ t. SameSeats t.row row in
    let stays : SameSeats row row = same row in
    let one = either P _ (stepped w row l s room _) stays in
    let all = heard w s (length row) 0 _ in
    either P _ (either P _ stays (either P _ (either P _ stays (either P _ all one)) stays)) stays

-- For a class too a room matters by its length alone, keeps it, and holds the reply at its start.
use Prim.Native.Nat.{ℕ, zero, suc, ◌+◌, ◌/◌, ◌≤◌}
use mathlib.Core.Path.{◌≡◌, refl, sym, ◌∙◌, ap}
use mathlib.Core.Bool.{Bool, ◌||◌}
use mathlib.Core.List.{List, []}
use native.Mathlib.Omega.{arith}
use lib.Dec.{eqb}
use lib.ListN.{length, take, set}
use Rattle.basis.specs.Choice.{choose}
use Rattle.basis.proofs.Choice.{either, beside}
use Rattle.results.specs.declared.Outcome.{Outcome}
use Rattle.results.specs.Number.{number_of}
use Rattle.module.specs.declared.state.Module.{Module}
use Rattle.device.specs.Run.{State, Said}
use Rattle.device.proofs.Lent.{room_alike, room_kept}
use Rattle.device.proofs.Replied.{replied}
use Rattle.row.specs.declared.outcome.ClassOutcome.{ClassOutcome}
use Rattle.row.specs.declared.progress.Whom.{Whom}
use Rattle.class.specs.Seat.{seat_at, share_at, with_share}
use Rattle.class.specs.Class.{ClassStep, refused_by, served_at, Heard, heard_at, heard_from, broadcast_to, class_of}

-- what a call comes to, its room aside
pub record ClassSaid : Type 0 where
  pub outcome : ClassOutcome
  pub reply : List ℕ
  pub read : ℕ
  pub whom : Whom
  pub row : List Module
  pub links : List ℕ

abbrev pub class_said : ClassStep → ClassSaid
class_said t = record { outcome = t.outcome; reply = t.reply; read = t.read; whom = t.whom; row = t.row; links = t.links }

-- seat i's module and share
abbrev own : ℕ → List Module → List ℕ → ℕ → State
own w row l i = record { device = seat_at row i; links = share_at w i l }

-- ---- a broadcast on its way, its room aside
record Way : Type 0 where
  pub acted : Bool
  pub read : ℕ
  pub row : List Module
  pub links : List ℕ

abbrev way_of : Heard → Way
way_of x = record { acted = x.acted; read = x.read; row = x.row; links = x.links }

abbrev onward : ℕ → ℕ → Way → Said → Way
onward w i y t =
    record {
      acted = y.acted || eqb (number_of t.outcome) 0;
      read = y.read + t.read;
      row = set y.row i t.left.device;
      links = with_share w i t.left.links y.links;
    }

abbrev with_room : Way → List ℕ → Heard
with_room y room = record { acted = y.acted; read = y.read; row = y.row; links = y.links; room = room }

module _ (w : ℕ) (s : List ℕ) where
  next_alike : (i : ℕ) (x y : Heard) → way_of x ≡ way_of y → length x.room ≡ length y.room → way_of (heard_at w s i x) ≡ way_of (heard_at w s i y)
  next_alike i x y p e =
      ap (λ (z : Way). way_of (heard_at w s i (with_room z x.room))) p
      ∙ ap (onward w i (way_of y)) (room_alike (own w y.row y.links i) s x.room y.room e)

  next_kept : (i : ℕ) (x : Heard) → length (heard_at w s i x).room ≡ length x.room
  next_kept i x = room_kept (own w x.row x.links i) s x.room

  way_alike : (k i : ℕ) (x y : Heard) → way_of x ≡ way_of y → length x.room ≡ length y.room → way_of (heard_from w s k i x) ≡ way_of (heard_from w s k i y)
  unfolding heard_from
  way_alike zero i x y p e = p
  way_alike (suc k) i x y p e =
      way_alike k (i + 1) (heard_at w s i x) (heard_at w s i y) (next_alike i x y p e) (next_kept i x ∙ e ∙ sym (next_kept i y))

-- ---- the class
abbrev from_way : Way → ClassSaid
from_way y =
    record {
      outcome = ClassOutcome.Single (choose y.acted Outcome.Done Outcome.Unconcerned);
      reply = [];
      read = y.read;
      whom = Whom.All;
      row = y.row;
      links = y.links;
    }

abbrev from_seat : ℕ → List Module → List ℕ → ℕ → Said → ClassSaid
from_seat w row l i t =
    record {
      outcome = ClassOutcome.Single t.outcome;
      reply = t.reply;
      read = t.read;
      whom = Whom.Seat i;
      row = set row i t.left.device;
      links = with_share w i t.left.links l;
    }

pub record Alike (t u : ClassStep) : Type 0 where
  pub same : class_said t ≡ class_said u

pub record ClassReplied (room : List ℕ) (t : ClassStep) : Type 0 where
  pub fits : length t.reply ≤ length room
  pub start : take (length t.reply) t.room ≡ t.reply

module _ (row : List Module) (l s : List ℕ) where
  abbrev w : ℕ
  w = length l / length row

  -- refused, to one seat, to all
  refused_alike : (o : ClassOutcome) (room other : List ℕ) → Alike (refused_by o row l room) (refused_by o row l other)
  refused_alike o room other = record { same = refl }

  served_alike : (i : ℕ) (room other : List ℕ) → length room ≡ length other → Alike (served_at w row l s room i) (served_at w row l s other i)
  served_alike i room other e = record { same = ap (from_seat w row l i) (room_alike (own w row l i) s room other e) }

  offered_alike : (room other : List ℕ) → length room ≡ length other → Alike (broadcast_to w row l s room) (broadcast_to w row l s other)
  offered_alike room other e = record { same = ap from_way (way_alike w s (length row) 0 _ _ refl e) }

  pub class_alike : (room other : List ℕ) → length room ≡ length other → Alike (class_of row l s room) (class_of row l s other)
  unfolding class_of
  class_alike room other e =
      let no : (o : ClassOutcome) → Alike (refused_by o row l room) (refused_by o row l other) = λ o. refused_alike o room other in
      let one = beside Alike _ (served_alike _ room other e) (no _) in
      beside Alike _ (beside Alike _ (no _) (beside Alike _ (beside Alike _ (no _) (beside Alike _ (offered_alike room other e) one)) (no _))) (no _)

  refused_replied : (o : ClassOutcome) (room : List ℕ) → ClassReplied room (refused_by o row l room)
  refused_replied o room = record { fits = omega arith; start = refl }

  served_replied : (i : ℕ) (room : List ℕ) → ClassReplied room (served_at w row l s room i)
  served_replied i room =
      let own-reply = replied (seat_at row i) (share_at w i l) s room in
      record { fits = own-reply.fits; start = own-reply.start }

  offered_replied : (room : List ℕ) → ClassReplied room (broadcast_to w row l s room)
  offered_replied room = record { fits = omega arith; start = refl }

  pub class_replied : (room : List ℕ) → ClassReplied room (class_of row l s room)
  unfolding class_of
  class_replied room =
      let P : ClassStep → Type 0 = ClassReplied room in
      let no : (o : ClassOutcome) → P (refused_by o row l room) = λ o. refused_replied o room in
      let one = either P _ (served_replied _ room) (no _) in
      either P _ (either P _ (no _) (either P _ (either P _ (no _) (either P _ (offered_replied room) one)) (no _))) (no _)

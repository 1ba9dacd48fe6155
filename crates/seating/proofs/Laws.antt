-- A message to whoever sits there: its reply in the room, and what hangs on the room.
use Prim.Native.Nat.{ℕ, ◌≤◌}
use mathlib.Core.Path.{◌≡◌, refl, ap}
use mathlib.Core.List.{List, [], ◌∷◌, ◌++◌}
use native.Mathlib.Omega.{arith}
use lib.ListN.{length, take, drop}
use Rattle.basis.proofs.Choice.{either, beside}
use Rattle.results.specs.Number.{number_of}
use Rattle.module.specs.declared.state.Module.{Module}
use Rattle.device.specs.Run.{Call, Said}
use Rattle.device.proofs.Lent.{room_alike}
use Rattle.device.proofs.Replied.{replied}
use Rattle.row.specs.declared.progress.Whom.{Whom}
use Rattle.row.specs.Number.{class_number_of}
use Rattle.class.specs.Class.{ClassStep}
use Rattle.class.proofs.Lent.{ClassSaid, class_alike, class_replied}
use Rattle.seating.specs.declared.heed.Seating.{Seating}
use Rattle.seating.specs.Heed.{Heed, by_class, heed_of}
use Rattle.seating.specs.Sat.{Sat, Told, heed_in, sat_by, heed_all, sat_after, told_by}

-- the reply stands at the start of the room
pub record HeedReplied (room : List ℕ) (t : Heed) : Type 0 where
  pub fits : length t.reply ≤ length room
  pub start : take (length t.reply) t.room ≡ t.reply

-- what two messages come to is the same, their rooms aside
pub record HeedAlike (s : Sat) (t u : Heed) : Type 0 where
  pub same : told_by s t ≡ told_by s u

pub heed_replied : (s : Seating) (l message room : List ℕ) → HeedReplied room (heed_of s l message room)
unfolding heed_of
heed_replied (Seating.Alone m) l message room = let own = replied m l message room in record { fits = own.fits; start = own.start }
heed_replied (Seating.Class row count) l message room =
    let own = class_replied (take count row) l message room in
    either (λ (t : ClassStep). HeedReplied room (by_class t)) _ (record { fits = omega arith; start = refl }) (record { fits = own.fits; start = own.start })

-- a room matters by its length alone
abbrev from_said : Said → Told
from_said x =
    record {
      number = number_of x.outcome;
      reply = x.reply;
      read = x.read;
      whom = Whom.Seat 0;
      left = record { seating = Seating.Alone x.left.device; links = x.left.links };
    }

abbrev from_class : List Module → ℕ → ClassSaid → Told
from_class row count x =
    record {
      number = class_number_of x.outcome;
      reply = x.reply;
      read = x.read;
      whom = x.whom;
      left = record { seating = Seating.Class (x.row ++ drop count row) count; links = x.links };
    }

pub heed-alike : (s : Seating) (l message room other : List ℕ) → length room ≡ length other
    → told_by (record { seating = s; links = l }) (heed_of s l message room) ≡ told_by (record { seating = s; links = l }) (heed_of s l message other)
unfolding heed_of
heed-alike (Seating.Alone m) l message room other e = ap from_said (room_alike (record { device = m; links = l }) message room other e)
heed-alike (Seating.Class row count) l message room other e =
    (beside (λ (t u : ClassStep). HeedAlike (record { seating = Seating.Class row count; links = l }) (by_class t) (by_class u)) _ (record { same = refl })
    (record { same = ap (from_class row count) (class_alike (take count row) l message room other e).same })).same

-- calls in two parts
pub heed_parts : (s : Sat) (first second : List Call) → heed_all s (first ++ second) ≡ heed_all s first ++ heed_all (sat_after s first) second
unfolding heed_all sat_after
heed_parts s [] second = refl
heed_parts s (c ∷ first) second = ap (λ (z : List Heed). heed_in s c ∷ z) (heed_parts (sat_by s (heed_in s c)) first second)

pub sat-parts : (s : Sat) (first second : List Call) → sat_after s (first ++ second) ≡ sat_after (sat_after s first) second
unfolding sat_after
sat-parts s [] second = refl
sat-parts s (c ∷ first) second = sat-parts (sat_by s (heed_in s c)) first second

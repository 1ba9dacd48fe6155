-- The strike-out holds with one room too, since a room matters by its length alone.
use Prim.Native.Nat.{ℕ}
use mathlib.Core.Path.{◌≡◌, refl, sym, ◌∙◌, ap}
use mathlib.Core.List.{List, [], ◌∷◌}
use mathlib.Core.Logic.{◌⊎◌, inl, inr}
use lib.ListN.{length}
use Rattle.wire.specs.Bytes.{from_of}
use Rattle.links.specs.Live.{Linked}
use Rattle.links.proofs.Linked.{linked_or_not}
use Rattle.device.specs.Step.{Step}
use Rattle.device.specs.Run.{State, Said, left_by, said_of, lent_call, lent_of, lent_end}
use Rattle.device.proofs.Lent.{room_alike, room_kept, as_lent, end_as_lent}
use Rattle.promises.specs.Room.{LengthAlone, LentAgain}
use Rattle.promises.specs.Demand3.{Stranger}
use Rattle.promises.specs.Lent.{StruckLent, none, keep, strike, StrikesLent, AlwaysStrikesLent, UnmissedLent}
use Rattle.promises.proofs.Demand3.{still}

pub length_alone : LengthAlone
length_alone s message room other e = room_alike s message room other e

pub lent_again : LentAgain
lent_again s room messages = (as_lent s room room messages refl, end_as_lent s room room messages refl)

pub always_strikes_lent : AlwaysStrikesLent
always_strikes_lent s room [] = record { kept = []; said = []; struck = none }
always_strikes_lent s room (message ∷ more) = go (linked_or_not s.links (from_of message)) (always_strikes_lent (left_by t) t.room more)
  where
    t : Step
    t = lent_call s room message

    go : Linked s.links (from_of message) ⊎ Stranger s.links message → StrikesLent (left_by t) t.room more → StrikesLent s room (message ∷ more)
    go (inl h) rest = record { kept = message ∷ rest.kept; said = said_of t ∷ rest.said; struck = keep h rest.struck }
    go (inr h) rest = record { kept = rest.kept; said = rest.said; struck = strike h rest.struck }

-- whatever stands in a room of the same length
by_length : (s : State) (room other : List ℕ) (messages kept : List (List ℕ)) (said : List Said)
    → StruckLent s room messages kept said → length other ≡ length room
    → (lent_of s other kept ≡ said) × (lent_end s other kept ≡ lent_end s room messages)
unfolding lent_of lent_end
by_length s room other messages kept said none e = (refl, refl)
by_length s room other messages kept said (keep {message = message} {more = more} {kept = others} {said = theirs} h struck) e =
    let t = lent_call s room message in
    let u = lent_call s other message in
    let here = room_alike s message other room e in
    let left = ap (λ (x : Said). x.left) here in
    let r = by_length (left_by t) t.room u.room more others theirs struck (room_kept s message other ∙ e ∙ sym (room_kept s message room)) in
    let first = ap (λ (x : Said). x ∷ lent_of x.left u.room others) here in
    (first ∙ ap (λ (z : List Said). said_of t ∷ z) r.0, ap (λ (x : State). lent_end x u.room others) left ∙ r.1)
by_length s room other messages kept said (strike {message = message} {more = more} h struck) e =
    let t = lent_call s room message in
    let r = by_length (left_by t) t.room other more kept said struck (e ∙ sym (room_kept s message room)) in
    let same = sym (still s (record { message = message; room = room }) h) in
    (ap (λ (x : State). lent_of x other kept) same ∙ r.0, ap (λ (x : State). lent_end x other kept) same ∙ r.1)

pub unmissed_lent : UnmissedLent
unmissed_lent s room messages kept said struck = by_length s room room messages kept said struck refl

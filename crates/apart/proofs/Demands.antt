-- What a module alone keeps to, it keeps to in its seat.
use Prim.Native.Nat.{ℕ, ◌<◌}
use mathlib.Core.Path.{◌≡◌, refl, sym, ◌∙◌, ap, subst}
use mathlib.Core.Bool.{Bool, true, false, ◌&&◌, ◌||◌, not}
use mathlib.Core.List.{List}
use mathlib.Core.Logic.{◌↔◌}
use lib.ListN.{length}
use borrow.Author.Tests.{eqb-true, not-true, not-false}
use Rattle.basis.proofs.Tests.{both, neither}
use Rattle.wire.specs.declared.address.Address.{Address}
use Rattle.wire.specs.Bytes.{from_of, to_of, hops_of, command1_of, equals, is_whole}
use Rattle.wire.specs.Kinds.{type_of, is_direct, is_broadcast, is_unheard, is_astray, is_foreign}
use Rattle.wire.specs.Checksum.{is_sum_wrong}
use Rattle.wire.specs.Reading.{well_formed}
use Rattle.links.specs.Record.{is_fit}
use Rattle.reply.specs.declared.due.ReplyType.{ReplyType}
use Rattle.reply.specs.Message.{standard}
use Rattle.device.specs.Run.{call_of}
use Rattle.row.specs.Number.{class_number_of}
use Rattle.row.specs.Row.{is_share_fit}
use Rattle.class.specs.Seat.{seat_at, name_at}
use Rattle.row.proofs.Fit.{fit, share_there}
use Rattle.promises.specs.Demand3.{ping_or_id, Stranger}
use Rattle.promises.proofs.Demand3.{nak_exactly, learns_nothing, unmissed}
use Rattle.promises.proofs.Legal.{taken}
use Rattle.apart.specs.Lesson.{Class, Seated, tell, width, alone, is_for}
use Rattle.apart.specs.Alone.{Answers, Offers}
use Rattle.apart.specs.Demands.{SeatNakExactly, SeatLearnsNothing, SeatUnmissed, SeatTakesEffect}
use Rattle.apart.proofs.Round.{share_length}
use Rattle.apart.proofs.Alone.{taken_alone, answered_alone, offered_to_all}
use Rattle.apart.proofs.Heart.{runs_alone}

-- a seat's share is fit link memory
share_fit : (c : Class) → Seated c → (i : ℕ) → i < length c.row → is_fit (alone c i).links ≡ true
share_fit c sits i h =
    subst (λ (k : ℕ). is_share_fit k ≡ true) (sym (share_length (width c) i c.links (share_there (length c.row) (length c.links) i h)))
    (fit (length c.row) (length c.links) sits.fit).share

-- what is well-formed for a seat is for it
is_for_lem : (a : Address) (s : List ℕ) → well_formed s a ≡ true → is_direct s ≡ true → is_for a s ≡ true
is_for_lem a s h d =
    let p = both (is_whole s && not (is_foreign s a)) (not (is_sum_wrong s)) h in
    let q = both (is_whole s) (not (is_foreign s a)) p.0 in
    let f = neither (is_unheard s) (is_astray s a) (not-true (is_foreign s a) q.1) in
    let to : equals (to_of s) a ≡ true = not-false (equals (to_of s) a) (rw d at f.1) in
    goes (is_whole s) (is_unheard s) (is_broadcast s) (equals (to_of s) a) q.0 f.0 to
  where
    goes : (w u b e : Bool) → w ≡ true → u ≡ false → e ≡ true → w && not u && (b || e) ≡ true
    goes w u true e p q r = rw (p, q)
    goes w u false e p q r = rw (p, q, r)

not_broadcast : (s : List ℕ) → is_direct s ≡ true → is_broadcast s ≡ false
not_broadcast s d = rw (eqb-true (type_of s) 0 d)

pub seat_nak_exactly : SeatNakExactly
seat_nak_exactly c sits x i h well direct room =
    let said : Answers (tell c x) (call_of (alone c i) x) = answered_alone c sits x i h (is_for_lem (name_at c.row i) x.message well direct) (not_broadcast x.message direct) in
    subst
    (λ (r : List ℕ).
    (r ≡ standard (name_at c.row i) (from_of x.message) ReplyType.Nak (hops_of x.message) (command1_of x.message) 0xff)
    ↔ ((ping_or_id x.message ≡ false) × Stranger (alone c i).links x.message))
    (sym said.reply)
    (nak_exactly (seat_at c.row i) (alone c i).links x.message x.room (share_fit c sits i h) well direct room)

pub seat_learns_nothing : SeatLearnsNothing
seat_learns_nothing c d sits sits' x i j h h' same mine s s' = go (is_broadcast x.message) refl
  where
    alike : is_for (name_at d.row j) x.message ≡ true
    alike = subst (λ (a : Address). is_for a x.message ≡ true) (ap (λ y. y.address) same) mine

    go : (b : Bool) → is_broadcast x.message ≡ b → ((tell c x).reply ≡ (tell d x).reply) × ((tell c x).room ≡ (tell d x).room)
    go true b =
        let one : Offers c x = offered_to_all c sits x i h mine b in
        let other : Offers d x = offered_to_all d sits' x j h' alike b in
        (one.reply ∙ sym other.reply, one.room ∙ sym other.room)
    go false b =
        let one : Answers (tell c x) (call_of (alone c i) x) = answered_alone c sits x i h mine b in
        let other : Answers (tell d x) (call_of (alone d j) x) = answered_alone d sits' x j h' alike b in
        let equal = learns_nothing (seat_at c.row i) (seat_at d.row j) (alone c i).links (alone d j).links x.message x.room same (share_fit c sits i h) (share_fit d sits' j h') s s' in
        (one.reply ∙ equal.0 ∙ sym other.reply, one.room ∙ equal.1 ∙ sym other.room)

pub seat_unmissed : SeatUnmissed
seat_unmissed c sits i h xs kept left steps given m k =
    let struck = unmissed (alone c i) kept left given k in
    (struck.0, struck.1 ∙ (runs_alone c sits i h xs kept steps m).1)

pub seat_takes_effect : SeatTakesEffect
seat_takes_effect c sits x i h e linked room legal =
    let said : Answers (tell c x) (call_of (alone c i) x) = answered_alone c sits x i h (is_for_lem (name_at c.row i) x.message linked.well-formed linked.is-direct) (not_broadcast x.message linked.is-direct) in
    let ends = taken (seat_at c.row i) (alone c i).links x.message x.room e linked room legal in
    record {
      result = ap class_number_of said.outcome ∙ ends.result;
      left = taken_alone c sits x i h ∙ (λ j. record { device = ends.next j; links = ends.links j });
      reply = said.reply ∙ ends.reply;
      room = said.room ∙ ends.room_after;
    }

-- One message to the class: every seat takes it as if alone.
use Prim.Native.Nat.{ℕ, ◌*◌, ◌+◌, ◌/◌, ◌≤◌, ◌<◌, zero-le}
use mathlib.Core.Path.{◌≡◌, refl, sym, ◌∙◌, ap, subst}
use mathlib.Core.Bool.{Bool, true, false, ◌&&◌, ◌||◌, not}
use mathlib.Core.List.{List}
use native.Mathlib.Nat.{zero-add}
use native.Mathlib.Omega.{arith}
use lib.Dec.{eqb, ltb}
use lib.ListN.{length, set, length-set}
use lib.Seq.{get_or-set_same, get_or-set_other}
use borrow.Author.Tests.{ltb-true, lt-ltb, eqb-true, eqb-false, not-true}
use Rattle.basis.specs.Choice.{choose}
use Rattle.basis.proofs.Choice.{by}
use Rattle.basis.proofs.Tests.{clash, both}
use Rattle.wire.specs.declared.address.Address.{Address}
use Rattle.wire.specs.Bytes.{to_of, equals, is_whole}
use Rattle.wire.specs.Kinds.{is_broadcast, is_unheard}
use Rattle.results.specs.declared.Outcome.{Outcome}
use Rattle.module.specs.declared.state.Module.{Module}
use Rattle.module.specs.Module.{kind_of}
use Rattle.device.specs.Step.{Step}
use Rattle.device.specs.Run.{Call, call_of, left_by}
use Rattle.device.proofs.Lasting.{same_identity, same_kind}
use Rattle.row.specs.declared.outcome.ClassOutcome.{ClassOutcome}
use Rattle.row.specs.Row.{is_row_fit, seat_named, is_doubled}
use Rattle.class.specs.Seat.{nobody, seat_at, name_at, share_at, with_share}
use Rattle.class.specs.Class.{ClassStep, refused_by, seat_step, served_at, addressed_to, Heard, heard_from, broadcast_to, class_of}
use Rattle.row.proofs.Fit.{share_there}
use Rattle.row.proofs.Named.{doubled_agrees}
use Rattle.apart.specs.Lesson.{Class, Seated, tell, leaves, alone, is_for, sum_from}
use Rattle.apart.specs.Alone.{TakenAlone, LeftAlone, AnsweredAlone, OfferedToAll, Stays, RowStays}
use Rattle.apart.proofs.Shares.{length-put, own_share, other_share}
use Rattle.apart.proofs.Quiet.{same_bytes}
use Rattle.apart.proofs.Named.{fails_below, found_at}
use Rattle.apart.proofs.Idle.{idle_module, idle_links}
use Rattle.apart.proofs.Round.{share_length, Ample, Heeded, heeded}

module _ (row : List Module) (l s room : List ℕ) where
  abbrev n : ℕ
  n = length row

  abbrev w : ℕ
  w = length l / length row

  -- what seat i makes of it alone
  abbrev own : ℕ → Step
  own i = seat_step w row l s room i

  -- what is to be shown of a step of the class
  record Result (t : ClassStep) : Type 0 where
    pub rows : length t.row ≡ n
    pub bytes : length t.links ≡ length l
    pub seats : (i : ℕ) → i < n → seat_at t.row i ≡ (own i).next
    pub shares : (i : ℕ) → i < n → share_at w i t.links ≡ (own i).links

  -- for nobody
  idle : (o : ClassOutcome) → ((i : ℕ) → i < n → is_for (name_at row i) s ≡ false) → Result (refused_by o row l room)
  idle o none =
      record {
        rows = refl;
        bytes = refl;
        seats = λ i h. sym (idle_module (seat_at row i) (share_at w i l) s room (none i h));
        shares = λ i h. sym (idle_links (seat_at row i) (share_at w i l) s room (none i h));
      }

  start : Heard
  start = record { acted = false; read = 0; row = row; links = l; room = room }

  -- for everybody
  ample : (b : is_broadcast s ≡ true) → Ample w s b n start
  unfolding start
  ample b = record { seats = refl; shares = λ i h. share_there n (length l) i h }

  all_heed : (b : is_broadcast s ≡ true) → Heeded w s b n n 0 start (heard_from w s n 0 start)
  all_heed b = heeded w s b n n 0 start (ample b) (omega arith)

  everybody : is_broadcast s ≡ true → Result (broadcast_to w row l s room)
  unfolding start
  everybody b =
      let done = all_heed b in
      record {
        rows = done.ample.seats;
        bytes = done.bytes;
        seats = λ i h. done.seats i zero-le (omega (arith, h));
        shares = λ i h. done.links i zero-le (omega (arith, h));
      }

  -- for one seat, or for none
  module _ (b : is_broadcast s ≡ false) where
    not-theirs : (a : Address) → equals (to_of s) a ≡ false → is_for a s ≡ false
    not-theirs a h = never (is_whole s) (is_unheard s) (is_broadcast s) (equals (to_of s) a) b h
      where
        never : (x u p q : Bool) → p ≡ false → q ≡ false → x && not u && (p || q) ≡ false
        never true true p q e f = refl
        never true false p q e f = rw (e, f)
        never false u p q e f = refl

    module _ (apart : is_doubled (name_at row) n ≡ false) where
      abbrev k : ℕ
      k = seat_named (name_at row) n (to_of s)

      somebody-else : (i : ℕ) → i < n → (i ≡ k → ⊥) → is_for (name_at row i) s ≡ false
      somebody-else i h other = go (equals (to_of s) (name_at row i)) refl
        where
          go : (e : Bool) → equals (to_of s) (name_at row i) ≡ e → is_for (name_at row i) s ≡ false
          go true q = absurd (other (sym (found_at (name_at row) n apart i (to_of s) h q)))
          go false q = not-theirs (name_at row i) q

      served : k < n → Result (served_at w row l s room k)
      served inside =
          record {
            rows = length-set row k (own k).next;
            bytes = length-put w k (own k).links l kept there;
            seats = λ i h. seat i h (eqb i k) refl;
            shares = λ i h. share i h (eqb i k) refl;
          }
        where
          there : k * w + w ≤ length l
          there = share_there n (length l) k inside

          kept : length (own k).links ≡ w
          kept = same_bytes (seat_at row k) (share_at w k l) s room ∙ share_length w k l there

          seat : (i : ℕ) → i < n → (e : Bool) → eqb i k ≡ e → seat_at (set row k (own k).next) i ≡ (own i).next
          seat i h true q =
              let e : i ≡ k = eqb-true i k q in
              rw e (get_or-set_same row k (own k).next nobody inside)
          seat i h false q =
              get_or-set_other row k i (own k).next nobody (eqb-false i k q)
              ∙ sym (idle_module (seat_at row i) (share_at w i l) s room (somebody-else i h (eqb-false i k q)))

          share : (i : ℕ) → i < n → (e : Bool) → eqb i k ≡ e → share_at w i (with_share w k (own k).links l) ≡ (own i).links
          share i h true q =
              let e : i ≡ k = eqb-true i k q in
              rw e (own_share w k (own k).links l kept there)
          share i h false q =
              other_share w k (own k).links l kept there i (eqb-false i k q)
              ∙ sym (idle_links (seat_at row i) (share_at w i l) s room (somebody-else i h (eqb-false i k q)))

      addressed : Result (addressed_to w row l s room)
      addressed =
          by Result (ltb k n) (λ q. served (ltb-true k n q))
          (λ q. idle ClassOutcome.NoSeat (λ i h. not-theirs (name_at row i) (fails_below (λ (j : ℕ). equals (to_of s) (name_at row j)) n q i h)))

  unwhole : (a : Address) → is_whole s ≡ false → is_for a s ≡ false
  unwhole a h = rw h

  unheard : (a : Address) → is_unheard s ≡ true → is_for a s ≡ false
  unheard a h = rw h (never (is_whole s) (is_broadcast s || equals (to_of s) a))
    where
      never : (x y : Bool) → x && not true && y ≡ false
      never true y = refl
      never false y = refl

  module _ (fit : is_row_fit n (length l) ≡ true) (apart : is_doubled (name_at row) n ≡ false) where
    result : Result (class_of row l s room)
    unfolding class_of
    result =
        by Result (is_row_fit n (length l))
        (λ f.
        by Result (is_doubled (name_at row) n) (λ d. clash d apart)
        (λ d.
        by Result (is_whole s)
        (λ h.
        by Result (is_unheard s) (λ u. idle (ClassOutcome.Single Outcome.Foreign) (λ i x. unheard (name_at row i) u))
        (λ u. by Result (is_broadcast s) everybody (λ b. addressed b apart)))
        (λ h. idle (ClassOutcome.Single Outcome.BadLength) (λ i x. unwhole (name_at row i) h))))
        (λ f. clash fit f)

    -- direct or cleanup for seat i
    one-seat : (i : ℕ) → i < n → is_for (name_at row i) s ≡ true → is_broadcast s ≡ false → class_of row l s room ≡ served_at w row l s room i
    unfolding class_of choose
    one-seat i h mine b =
        let p = both (is_whole s && not (is_unheard s)) (is_broadcast s || equals (to_of s) (name_at row i)) mine in
        let q = both (is_whole s) (not (is_unheard s)) p.0 in
        let u : is_unheard s ≡ false = not-true (is_unheard s) q.1 in
        let it : equals (to_of s) (name_at row i) ≡ true = rw b at p.1 in
        let found : seat_named (name_at row) n (to_of s) ≡ i = found_at (name_at row) n apart i (to_of s) h it in
        rw (fit, apart, q.0, u, b, found, lt-ltb i n h)

    -- a broadcast
    every-seat : (i : ℕ) → is_for (name_at row i) s ≡ true → is_broadcast s ≡ true → class_of row l s room ≡ broadcast_to w row l s room
    unfolding class_of choose
    every-seat i mine b =
        let p = both (is_whole s && not (is_unheard s)) (is_broadcast s || equals (to_of s) (name_at row i)) mine in
        let q = both (is_whole s) (not (is_unheard s)) p.0 in
        let u : is_unheard s ≡ false = not-true (is_unheard s) q.1 in
        rw (fit, apart, q.0, u, b)

module _ (c : Class) (sits : Seated c) (x : Call) where
  abbrev t : ClassStep
  t = tell c x

  came : Result c.row c.links x.message x.room t
  came = result c.row c.links x.message x.room sits.fit sits.apart

  same_width : (i : ℕ) → share_at (length t.links / length t.row) i t.links ≡ share_at (length c.links / length c.row) i t.links
  same_width i = (λ e. share_at (came.bytes e / came.rows e) i t.links)

  takes : (i : ℕ) → i < length c.row → alone (leaves t) i ≡ left_by (call_of (alone c i) x)
  takes i h =
      let links : share_at (length t.links / length t.row) i t.links ≡ (call_of (alone c i) x).links = same_width i ∙ came.shares i h in
      (λ e. record { device = came.seats i h e; links = links e })

  same_name : (i : ℕ) → i < length c.row → name_at t.row i ≡ name_at c.row i
  same_name i h =
      ap (λ (m : Module). m.identity.address) (came.seats i h)
      ∙ ap (λ j. j.address) (same_identity (alone c i).device (alone c i).links x.message x.room)

  stays_seated : Seated (leaves t)
  stays_seated =
      record {
        fit = subst (λ (k : ℕ). is_row_fit k (length t.links) ≡ true) (sym came.rows) (subst (λ (k : ℕ). is_row_fit (length c.row) k ≡ true) (sym came.bytes) sits.fit);
        apart = subst (λ (k : ℕ). is_doubled (name_at t.row) k ≡ false) (sym came.rows) (doubled_agrees (name_at t.row) (name_at c.row) (length c.row) same_name ∙ sits.apart);
      }

  stays : Stays c (leaves t)
  stays =
      record {
        seats = came.rows;
        bytes = came.bytes;
        names = same_name;
        kinds = λ i h. ap (λ (m : Module). kind_of m.load) (came.seats i h) ∙ same_kind (alone c i).device (alone c i).links x.message x.room;
        answers = λ i h s. ap (λ (a : Address). is_for a s) (same_name i h);
        seated = stays_seated;
      }

pub taken_alone : TakenAlone
taken_alone c sits x i h = takes c sits x i h

pub row_stays : RowStays
row_stays c sits x = stays c sits x

pub left_alone : LeftAlone
left_alone c x i h =
    (λ e. record {
      device = idle_module (alone c i).device (alone c i).links x.message x.room h e;
      links = idle_links (alone c i).device (alone c i).links x.message x.room h e;
    })

pub answered_alone : AnsweredAlone
answered_alone c sits x i h mine b =
    let e : tell c x ≡ served_at (length c.links / length c.row) c.row c.links x.message x.room i =
    one-seat c.row c.links x.message x.room sits.fit sits.apart i h mine b in
    record {
      outcome = ap (λ (t : ClassStep). t.outcome) e;
      reply = ap (λ (t : ClassStep). t.reply) e;
      read = ap (λ (t : ClassStep). t.read) e;
      room = ap (λ (t : ClassStep). t.room) e;
    }

pub offered_to_all : OfferedToAll
unfolding start
offered_to_all c sits x i h mine b =
    let e : tell c x ≡ broadcast_to (length c.links / length c.row) c.row c.links x.message x.room =
    every-seat c.row c.links x.message x.room sits.fit sits.apart i mine b in
    let done = all_heed c.row c.links x.message x.room b in
    record {
      reply = ap (λ (t : ClassStep). t.reply) e;
      room = ap (λ (t : ClassStep). t.room) e ∙ done.room;
      read = ap (λ (t : ClassStep). t.read) e ∙ done.read ∙ zero-add (sum_from (λ (j : ℕ). (call_of (alone c j) x).read) (length c.row) 0);
      outcome = ap (λ (t : ClassStep). t.outcome) e ∙ ap (λ (a : Bool). ClassOutcome.Single (choose a Outcome.Done Outcome.Unconcerned)) done.acted;
    }

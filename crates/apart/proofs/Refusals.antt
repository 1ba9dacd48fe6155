-- The refusals of the row, in their order.
use Prim.Native.Nat.{ℕ, ◌%◌, ◌<◌}
use mathlib.Core.Path.{◌≡◌, refl, sym, ◌∙◌, ap}
use mathlib.Core.Bool.{Bool, true, false, ◌&&◌, ◌||◌, not}
use mathlib.Core.List.{List}
use native.Mathlib.Omega.{arith}
use lib.Dec.{eqb, leb, ltb}
use lib.ListN.{length}
use borrow.Author.Tests.{ltb-true, leb-true, leb-false, eqb-true, eqb-false}
use Rattle.basis.specs.Choice.{choose}
use Rattle.basis.specs.First.{first}
use Rattle.basis.specs.Numbers.{within}
use Rattle.basis.proofs.First.{Told, at, nowhere, told}
use Rattle.basis.proofs.Tests.{clash, both}
use Rattle.wire.specs.declared.address.Address.{Address}
use Rattle.wire.specs.Bytes.{to_of, equals, is_extended}
use Rattle.wire.specs.Kinds.{is_direct, is_cleanup, is_broadcast, is_unheard}
use Rattle.results.specs.declared.Outcome.{Outcome}
use Rattle.device.specs.Run.{Call}
use Rattle.row.specs.declared.outcome.ClassOutcome.{ClassOutcome}
use Rattle.row.specs.Row.{is_row_fit, seat_named, is_taken, is_doubled}
use Rattle.class.specs.Seat.{nobody, name_at}
use Rattle.class.specs.Class.{ClassStep, refused_by, class_of}
use Rattle.row.proofs.Fit.{Fit, fit}
use Rattle.row.proofs.Named.{same_address, itself, found}
use Rattle.promises.proofs.Whens.{is_whole_lem, is_unwhole}
use Rattle.apart.specs.Lesson.{Class, tell, leaves, width}
use Rattle.apart.specs.Refusals.{When11, no-seat, too_many, unequal, no-share, long-share, odd-share, When9, Unheard, other-type, long-not-direct, Refused, InOrder, RefusedInOrder, ClassNumbered}
use Rattle.apart.proofs.Named.{fails_below}

pub class_numbered : ClassNumbered
class_numbered (ClassOutcome.Single Outcome.Done) = omega arith
class_numbered (ClassOutcome.Single Outcome.BadLength) = omega arith
class_numbered (ClassOutcome.Single Outcome.BadMemory) = omega arith
class_numbered (ClassOutcome.Single Outcome.Foreign) = omega arith
class_numbered (ClassOutcome.Single Outcome.BadSum) = omega arith
class_numbered (ClassOutcome.Single Outcome.NoRoom) = omega arith
class_numbered (ClassOutcome.Single Outcome.NotLinked) = omega arith
class_numbered (ClassOutcome.Single Outcome.Unlisted) = omega arith
class_numbered (ClassOutcome.Single Outcome.Unconcerned) = omega arith
class_numbered ClassOutcome.Doubled = omega arith
class_numbered ClassOutcome.NoSeat = omega arith
class_numbered ClassOutcome.Unfit = omega arith

-- what does not hold is false
no : (b : Bool) → (b ≡ true → ⊥) → b ≡ false
no true h = absurd (h refl)
no false h = refl

yes : (b : Bool) → (b ≡ false → ⊥) → b ≡ true
yes true h = refl
yes false h = absurd (h refl)

module _ (c : Class) where
  abbrev n : ℕ
  n = length c.row

  -- 11
  unfit : When11 c → is_row_fit n (length c.links) ≡ false
  unfit h = no (is_row_fit n (length c.links)) (λ q. not-fit h (fit n (length c.links) q))
    where
      not-fit : When11 c → Fit n (length c.links) → ⊥
      not-fit (no-seat e) f = omega (arith, e, f.some)
      not-fit (too_many e) f = omega (arith, e, f.few)
      not-fit (unequal e) f = e f.parts
      not-fit (no-share e) f = let p = both (leb 1 (width c)) (leb (width c) 2048) (both (within 1 2048 (width c)) (eqb (width c % 8) 0) f.share).0 in omega (arith, e, leb-true 1 (width c) p.0)
      not-fit (long-share e) f = let p = both (leb 1 (width c)) (leb (width c) 2048) (both (within 1 2048 (width c)) (eqb (width c % 8) 0) f.share).0 in omega (arith, e, leb-true (width c) 2048 p.1)
      not-fit (odd-share e) f = e (eqb-true (width c % 8) 0 (both (within 1 2048 (width c)) (eqb (width c % 8) 0) f.share).1)

  is_fit_lem : ¬ When11 c → is_row_fit n (length c.links) ≡ true
  is_fit_lem h =
      let some : leb 1 n ≡ true = yes (leb 1 n) (λ q. let e : n < 1 = leb-false 1 n q in h (no-seat (omega (arith, e)))) in
      let few : leb n 16 ≡ true = yes (leb n 16) (λ q. h (too_many (leb-false n 16 q))) in
      let equal : eqb (length c.links % n) 0 ≡ true = yes (eqb (length c.links % n) 0) (λ q. h (unequal (eqb-false (length c.links % n) 0 q))) in
      let bytes : leb 1 (width c) ≡ true = yes (leb 1 (width c)) (λ q. let e : width c < 1 = leb-false 1 (width c) q in h (no-share (omega (arith, e)))) in
      let short : leb (width c) 2048 ≡ true = yes (leb (width c) 2048) (λ q. h (long-share (leb-false (width c) 2048 q))) in
      let records : eqb (width c % 8) 0 ≡ true = yes (eqb (width c % 8) 0) (λ q. h (odd-share (eqb-false (width c % 8) 0 q))) in
      rw (some, few, equal, bytes, short, records)

  -- 9
  doubled : When9 c → is_doubled (name_at c.row) n ≡ true
  doubled h =
      yes (is_doubled (name_at c.row) n)
      (λ q.
      let free : is_taken (name_at c.row) h.other ≡ false = fails_below (is_taken (name_at c.row)) n q h.other h.inside in
      let differs : equals (name_at c.row h.other) (name_at c.row h.one) ≡ false =
      fails_below (λ (k : ℕ). equals (name_at c.row h.other) (name_at c.row k)) h.other free h.one h.apart in
      clash (ap (λ (a : Address). equals (name_at c.row h.other) a) h.same ∙ itself (name_at c.row h.other)) differs)

  not_doubled : ¬ When9 c → is_doubled (name_at c.row) n ≡ false
  not_doubled h = no (is_doubled (name_at c.row) n) (λ q. h (two (first (is_taken (name_at c.row)) n) (ltb-true _ n q) (told (is_taken (name_at c.row)) n 0)))
    where
      two : (j : ℕ) → j < n → Told (is_taken (name_at c.row)) n 0 j → When9 c
      two j inside (nowhere z) = absurd (omega (arith, inside, z.behind))
      two j inside (at z) =
          let i : ℕ = seat_named (name_at c.row) j (name_at c.row j) in
          let before : i < j = ltb-true i j z.holds in
          record {
            one = i;
            other = j;
            apart = before;
            inside = inside;
            same = sym (same_address (name_at c.row j) (name_at c.row i) (found (name_at c.row) j (name_at c.row j) before));
          }

-- 3
module _ (s : List ℕ) where
  unheard : Unheard s → is_unheard s ≡ true
  unheard (other-type d k b) = rw (d, k, b)
  unheard (long-not-direct x d) = rw (x, d) (last (is_cleanup s) (is_broadcast s))
    where
      last : (k b : Bool) → not (k || b) || true ≡ true
      last true b = refl
      last false true = refl
      last false false = refl

  heard : ¬ Unheard s → is_unheard s ≡ false
  heard h = no (is_unheard s) (λ q. go (is_direct s) refl (is_cleanup s) refl (is_broadcast s) refl (is_extended s) refl q)
    where
      go : (d : Bool) → is_direct s ≡ d → (k : Bool) → is_cleanup s ≡ k → (b : Bool) → is_broadcast s ≡ b → (x : Bool) → is_extended s ≡ x → is_unheard s ≡ true → ⊥
      go true d k k' b b' x x' q = clash q (not-long (is_cleanup s) (is_broadcast s) (is_extended s) d)
        where
          not-long : (k b x : Bool) → is_direct s ≡ true → is_unheard s ≡ false
          not-long k b x e = rw e (over (is_extended s))
            where
              over : (y : Bool) → y && false ≡ false
              over true = refl
              over false = refl
      go false d k k' b b' true x q = h (long-not-direct x d)
      go false d false k b b' false x q = kind b b'
        where
          kind : (b : Bool) → is_broadcast s ≡ b → ⊥
          kind false e = h (other-type d k e)
          kind true e = clash q (rw (d, k, e, x))
      go false d true k b b' false x q = clash q (rw (d, k, x))

module _ (c : Class) (x : Call) where
  refusal : (o : ClassOutcome) → tell c x ≡ refused_by o c.row c.links x.room → Refused c x o
  refusal o e =
      record {
        outcome = ap (λ (t : ClassStep). t.outcome) e;
        reply = ap (λ (t : ClassStep). t.reply) e;
        read = ap (λ (t : ClassStep). t.read) e;
        stays = ap leaves e;
        room = ap (λ (t : ClassStep). t.room) e;
      }

  -- 10
  nobody_there : ((i : ℕ) → i < length c.row → ¬ (name_at c.row i ≡ to_of x.message)) → ltb (seat_named (name_at c.row) (length c.row) (to_of x.message)) (length c.row) ≡ false
  nobody_there h =
      no (ltb (seat_named (name_at c.row) (length c.row) (to_of x.message)) (length c.row))
      (λ q.
      let i : ℕ = seat_named (name_at c.row) (length c.row) (to_of x.message) in
      let inside : i < length c.row = ltb-true i (length c.row) q in
      h i inside (sym (same_address (to_of x.message) (name_at c.row i) (found (name_at c.row) (length c.row) (to_of x.message) inside))))

  in_order : InOrder c x
  unfolding class_of choose
  in_order =
      record {
        eleven = λ h. refusal ClassOutcome.Unfit (rw (unfit c h));
        nine = λ f h. refusal ClassOutcome.Doubled (rw (is_fit_lem c f, doubled c h));
        one = λ f d h. refusal (ClassOutcome.Single Outcome.BadLength) (rw (is_fit_lem c f, not_doubled c d, is_unwhole nobody c.links x.message h));
        three = λ f d w h. refusal (ClassOutcome.Single Outcome.Foreign) (rw (is_fit_lem c f, not_doubled c d, is_whole_lem nobody c.links x.message w, unheard x.message h));
        ten = λ f d w u h.
            refusal ClassOutcome.NoSeat
            (rw (is_fit_lem c f, not_doubled c d, is_whole_lem nobody c.links x.message w, heard x.message u, h.0, nobody_there h.1));
      }

pub refused_in_order : RefusedInOrder
refused_in_order c x = in_order c x

-- A broadcast on its way along the row: each seat hears it as if alone.
use Prim.Native.Nat.{ℕ, zero, suc, ◌+◌, ◌-◌, ◌*◌, ◌≤◌, ◌<◌}
use mathlib.Core.Path.{◌≡◌, refl, sym, ◌∙◌, ap, subst}
use mathlib.Core.Bool.{Bool, true, false, ◌||◌}
use mathlib.Core.List.{List}
use native.Mathlib.Nat.{add-zero, add_assoc}
use native.Mathlib.Omega.{arith}
use lib.Dec.{eqb}
use lib.ListN.{length, length-set}
use lib.Seq.{get_or-set_same, get_or-set_other}
use borrow.Author.Tests.{eqb-true, eqb-false}
use borrow.Rule.Slice.PartMut.{mid_of, mid_len}
use Rattle.wire.specs.Kinds.{is_broadcast}
use Rattle.results.specs.Number.{number_of}
use Rattle.device.specs.Step.{Step, step_of}
use Rattle.class.specs.Seat.{nobody, seat_at, share_at}
use Rattle.class.specs.Class.{seat_step, Heard, heard_at, heard_from}
use Rattle.apart.specs.Lesson.{sum_from, any_from}
use Rattle.apart.proofs.Shares.{length-put, own_share, other_share}
use Rattle.apart.proofs.Quiet.{same_bytes, same_room}

pub share_length : (w i : ℕ) (l : List ℕ) → i * w + w ≤ length l → length (share_at w i l) ≡ w
share_length w i l h =
    let so : i * w + w - i * w ≡ w = omega arith in
    subst (λ (k : ℕ). length (mid_of (i * w) k l) ≡ k) so (mid_len (i * w) (i * w + w) l h)

either_first : (a b c : Bool) → (a || b) || c ≡ a || (b || c)
either_first true b c = refl
either_first false b c = refl

module _ (w : ℕ) (s : List ℕ) (b : is_broadcast s ≡ true) (n : ℕ) where
  -- a row of n seats whose shares are all there
  pub record Ample (x : Heard) : Type 0 where
    pub seats : length x.row ≡ n
    pub shares : (i : ℕ) → i < n → i * w + w ≤ length x.links

  abbrev hears : Heard → ℕ → Step
  hears x i = seat_step w x.row x.links s x.room i

  module _ (x : Heard) (ample : Ample x) (i : ℕ) (inside : i < n) where
    abbrev x' : Heard
    x' = heard_at w s i x

    kept : length (hears x i).links ≡ w
    kept = same_bytes (seat_at x.row i) (share_at w i x.links) s x.room ∙ share_length w i x.links (ample.shares i inside)

    pub still-ample : Ample x'
    still-ample =
        record {
          seats = length-set x.row i (hears x i).next ∙ ample.seats;
          shares = λ j h. subst (λ (k : ℕ). j * w + w ≤ k) (sym (length-put w i (hears x i).links x.links kept (ample.shares i inside))) (ample.shares j h);
        }

    room-stays : x'.room ≡ x.room
    room-stays = same_room (seat_at x.row i) (share_at w i x.links) s x.room b

    own-seat : seat_at x'.row i ≡ (hears x i).next
    own-seat = get_or-set_same x.row i (hears x i).next nobody (omega (arith, inside, ample.seats))

    own-links : share_at w i x'.links ≡ (hears x i).links
    own-links = own_share w i (hears x i).links x.links kept (ample.shares i inside)

    other-seat : (j : ℕ) → (j ≡ i → ⊥) → seat_at x'.row j ≡ seat_at x.row j
    other-seat j h = get_or-set_other x.row i j (hears x i).next nobody h

    other-links : (j : ℕ) → (j ≡ i → ⊥) → share_at w j x'.links ≡ share_at w j x.links
    other-links j h = other_share w i (hears x i).links x.links kept (ample.shares i inside) j h

    -- who has not heard it yet will hear the same
    same-hearing : (j : ℕ) → (j ≡ i → ⊥) → hears x' j ≡ hears x j
    same-hearing j h =
        (λ e. step_of (other-seat j h e) (other-links j h e) s (room-stays e))

  -- what k seats from seat i on make of it
  pub record Heeded (k i : ℕ) (x r : Heard) : Type 0 where
    pub ample : Ample r
    pub bytes : length r.links ≡ length x.links
    pub room : r.room ≡ x.room
    pub earlier-seats : (j : ℕ) → j < i → seat_at r.row j ≡ seat_at x.row j
    pub earlier-links : (j : ℕ) → j < i → share_at w j r.links ≡ share_at w j x.links
    pub later-seats : (j : ℕ) → i + k ≤ j → seat_at r.row j ≡ seat_at x.row j
    pub later-links : (j : ℕ) → i + k ≤ j → share_at w j r.links ≡ share_at w j x.links
    pub seats : (j : ℕ) → i ≤ j → j < i + k → seat_at r.row j ≡ (hears x j).next
    pub links : (j : ℕ) → i ≤ j → j < i + k → share_at w j r.links ≡ (hears x j).links
    pub read : r.read ≡ x.read + sum_from (λ (j : ℕ). (hears x j).read) k i
    pub acted : r.acted ≡ x.acted || any_from (λ (j : ℕ). eqb (number_of (hears x j).outcome) 0) k i

  sum_agrees : (f g : ℕ → ℕ) (k i : ℕ) → ((j : ℕ) → i ≤ j → f j ≡ g j) → sum_from f k i ≡ sum_from g k i
  unfolding sum_from
  sum_agrees f g zero i h = refl
  sum_agrees f g (suc k) i h = (λ e. h i (omega arith) e + sum_agrees f g k (i + 1) (λ j l. h j (omega (arith, l))) e)

  any_agrees : (P Q : ℕ → Bool) (k i : ℕ) → ((j : ℕ) → i ≤ j → P j ≡ Q j) → any_from P k i ≡ any_from Q k i
  unfolding any_from
  any_agrees P Q zero i h = refl
  any_agrees P Q (suc k) i h = (λ e. h i (omega arith) e || any_agrees P Q k (i + 1) (λ j l. h j (omega (arith, l))) e)

  or-false : (a : Bool) → a ≡ a || false
  or-false true = refl
  or-false false = refl

  -- one seat more
  one_more : (k i : ℕ) (x r : Heard) → (ample : Ample x) → (inside : i < n) → Heeded k (i + 1) (heard_at w s i x) r → Heeded (suc k) i x r
  unfolding sum_from any_from
  one_more k i x r ample inside later =
      record {
        ample = later.ample;
        bytes = later.bytes ∙ length-put w i (hears x i).links x.links (kept x ample i inside) (ample.shares i inside);
        room = later.room ∙ room-stays x ample i inside;
        earlier-seats = λ j h. later.earlier-seats j (omega (arith, h)) ∙ other-seat x ample i inside j (omega (arith, h));
        earlier-links = λ j h. later.earlier-links j (omega (arith, h)) ∙ other-links x ample i inside j (omega (arith, h));
        later-seats = λ j h. later.later-seats j (omega (arith, h)) ∙ other-seat x ample i inside j (omega (arith, h));
        later-links = λ j h. later.later-links j (omega (arith, h)) ∙ other-links x ample i inside j (omega (arith, h));
        seats = λ j from upto. seat j from upto (eqb j i) refl;
        links = λ j from upto. share j from upto (eqb j i) refl;
        read =
            later.read
            ∙ ap (λ (z : ℕ). x.read + (hears x i).read + z) (sum_agrees (λ (j : ℕ). (hears (heard_at w s i x) j).read) (λ (j : ℕ). (hears x j).read) k (i + 1) (λ j h. ap (λ (t : Step). t.read) (again j h)))
            ∙ add_assoc x.read (hears x i).read (sum_from (λ (j : ℕ). (hears x j).read) k (i + 1));
        acted =
            later.acted
            ∙ ap (λ (z : Bool). (x.acted || eqb (number_of (hears x i).outcome) 0) || z)
            (any_agrees (λ (j : ℕ). eqb (number_of (hears (heard_at w s i x) j).outcome) 0) (λ (j : ℕ). eqb (number_of (hears x j).outcome) 0) k (i + 1) (λ j h. ap (λ (t : Step). eqb (number_of t.outcome) 0) (again j h)))
            ∙ either_first x.acted (eqb (number_of (hears x i).outcome) 0) (any_from (λ (j : ℕ). eqb (number_of (hears x j).outcome) 0) k (i + 1));
      }
    where
      again : (j : ℕ) → i + 1 ≤ j → hears (heard_at w s i x) j ≡ hears x j
      again j h = same-hearing x ample i inside j (omega (arith, h))

      seat : (j : ℕ) → i ≤ j → j < i + suc k → (b : Bool) → eqb j i ≡ b → seat_at r.row j ≡ (hears x j).next
      seat j from upto true q =
          let e : j ≡ i = eqb-true j i q in
          rw e (later.earlier-seats i (omega arith) ∙ own-seat x ample i inside)
      seat j from upto false q =
          let past : i + 1 ≤ j = omega (arith, from, eqb-false j i q) in
          later.seats j past (omega (arith, upto)) ∙ ap (λ (t : Step). t.next) (again j past)

      share : (j : ℕ) → i ≤ j → j < i + suc k → (b : Bool) → eqb j i ≡ b → share_at w j r.links ≡ (hears x j).links
      share j from upto true q =
          let e : j ≡ i = eqb-true j i q in
          rw e (later.earlier-links i (omega arith) ∙ own-links x ample i inside)
      share j from upto false q =
          let past : i + 1 ≤ j = omega (arith, from, eqb-false j i q) in
          later.links j past (omega (arith, upto)) ∙ ap (λ (t : Step). t.links) (again j past)

  pub heeded : (k i : ℕ) (x : Heard) → Ample x → i + k ≤ n → Heeded k i x (heard_from w s k i x)
  unfolding heard_from sum_from any_from
  heeded zero i x ample upto =
      record {
        ample = ample;
        bytes = refl;
        room = refl;
        earlier-seats = λ j h. refl;
        earlier-links = λ j h. refl;
        later-seats = λ j h. refl;
        later-links = λ j h. refl;
        seats = λ j from before. absurd (omega (arith, from, before));
        links = λ j from before. absurd (omega (arith, from, before));
        read = sym (add-zero x.read);
        acted = or-false x.acted;
      }
  heeded (suc k) i x ample upto =
      let inside : i < n = omega (arith, upto) in
      one_more k i x (heard_from w s k (i + 1) (heard_at w s i x)) ample inside (heeded k (i + 1) (heard_at w s i x) (still-ample x ample i inside) (omega (arith, upto)))

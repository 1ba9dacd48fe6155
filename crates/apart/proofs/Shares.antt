-- A share put back is found in its place, and every other share as it was.
use Prim.Native.Nat.{ℕ, suc, ◌+◌, ◌-◌, ◌*◌, ◌≤◌, ◌<◌}
use mathlib.Core.Path.{◌≡◌, refl, sym, ◌∙◌, ap, subst}
use mathlib.Core.Bool.{Bool, true, false}
use mathlib.Core.List.{List, ◌++◌}
use native.Mathlib.Nat.{suc-mul, mul-le-mul_right}
use native.Mathlib.Omega.{arith}
use lib.Dec.{ltb}
use lib.ListN.{length, take, drop}
use lib.Seq.{length-take-le, take_at, drop_at, take-take, drop-drop, take-add}
use borrow.Author.Tests.{ltb-true, ltb-false}
use borrow.Rule.Slice.PartMut.{mid_of, put_mid, same_len_mid, mid_len, take_put, drop_put}
use Rattle.class.specs.Seat.{share_at, with_share}

-- a part is the end of a beginning
end_of : (p w : ℕ) (l : List ℕ) → p ≤ length l → take w (drop p l) ≡ drop p (take (p + w) l)
end_of p w l h = sym (ap (drop p) (take-add p w l) ∙ drop_at (take p l) (take w (drop p l)) p (length-take-le p l h))

-- a share ends where the next one begins, or before
next_one : (w i j : ℕ) → i < j → i * w + w ≤ j * w
next_one w i j h =
    let one_more : suc i * w ≡ i * w + w = suc-mul i w in
    let inside : suc i * w ≤ j * w = mul-le-mul_right w h in
    omega (arith, one_more, inside)

module _ (w i : ℕ) (y l : List ℕ) (len : length y ≡ w) (fits : i * w + w ≤ length l) where
  abbrev a : ℕ
  a = i * w

  abbrev put : List ℕ
  put = with_share w i y l

  width_is : a + w - a ≡ w
  width_is = omega arith

  pub length-put : length put ≡ length l
  length-put = same_len_mid a w l y (len ∙ sym (subst (λ (k : ℕ). length (mid_of a k l) ≡ k) width_is (mid_len a (a + w) l fits)))

  pub own_share : share_at w i put ≡ y
  own_share = ap (take w) (drop_at (take a l) (y ++ drop w (drop a l)) a (length-take-le a l (omega arith))) ∙ take_at y (drop w (drop a l)) w len

  before : (j : ℕ) → j < i → share_at w j put ≡ share_at w j l
  before j h =
      let ends : j * w + w ≤ a = next_one w j i h in
      let there : j * w ≤ length l = omega (arith, ends, fits) in
      let there-too : j * w ≤ length put = subst (λ (k : ℕ). j * w ≤ k) (sym length-put) there in
      end_of (j * w) w put there-too
      ∙ ap (drop (j * w)) (sym (take-take (j * w + w) a put ends) ∙ ap (take (j * w + w)) (take_put a w l y (omega arith)) ∙ take-take (j * w + w) a l ends)
      ∙ sym (end_of (j * w) w l there)

  from_end : drop (a + w) put ≡ drop (a + w) l
  from_end = subst (λ (k : ℕ). drop (a + w) (put_mid a k l y) ≡ drop (a + w) l) width_is (drop_put a (a + w) l y (omega arith) fits (len ∙ sym width_is))

  behind : (j : ℕ) → i < j → share_at w j put ≡ share_at w j l
  behind j h =
      let begins : a + w ≤ j * w = next_one w i j h in
      let way : a + w + (j * w - (a + w)) ≡ j * w = omega (arith, begins) in
      let further : (x : List ℕ) → drop (j * w - (a + w)) (drop (a + w) x) ≡ drop (j * w) x = λ x. drop-drop (j * w - (a + w)) (a + w) x ∙ ap (λ (k : ℕ). drop k x) way in
      ap (take w) (sym (further put) ∙ ap (drop (j * w - (a + w))) from_end ∙ further l)

  pub other_share : (j : ℕ) → (j ≡ i → ⊥) → share_at w j put ≡ share_at w j l
  other_share j apart = go (ltb j i) refl
    where
      go : (b : Bool) → ltb j i ≡ b → share_at w j put ≡ share_at w j l
      go true q = before j (ltb-true j i q)
      go false q = behind j (omega (arith, ltb-false j i q, apart))

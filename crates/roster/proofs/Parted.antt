-- Word after word: each ends further on than it begins, and how many are asked for is all one where it is enough.
use Prim.Native.Nat.{ℕ, zero, suc, ◌+◌, ◌-◌, ◌≤◌, ◌<◌}
use mathlib.Core.Path.{◌≡◌, refl, sym, ◌∙◌, ap}
use mathlib.Core.Bool.{Bool, true, false}
use mathlib.Core.List.{List, [], ◌∷◌}
use native.Mathlib.Nat.{sub-zero}
use native.Mathlib.Omega.{arith}
use lib.Dec.{eqb, ltb}
use lib.ListN.{length}
use borrow.Author.Tests.{lt-ltb, le-ltb, ltb-true, ltb-false, eqb-true, eqb-false, not-true}
use Rattle.basis.specs.Choice.{choose}
use Rattle.basis.proofs.Tests.{clash}
use Rattle.basis.proofs.First.{Told, at, nowhere, told}
use Rattle.roster.specs.Words.{is_blank, is_ink, stops_at, bare_length, blank_at, ink_at, word_start, word_end, word_at, words_from}
use Rattle.roster.proofs.Places.{bounds, found, place}

pub bare_inside : (s : List ℕ) → bare_length s ≤ length s
unfolding bare_length
bare_inside s = rw sub-zero at (bounds (stops_at s) (length s) 0 (omega arith)).1

module _ (s : List ℕ) (i : ℕ) where
  abbrev start : ℕ
  start = word_start s i

  abbrev end : ℕ
  end = word_end s start

  pub starts : i ≤ length s → (i ≤ start) × (start ≤ length s)
  unfolding word_start
  starts h = bounds (ink_at s) (length s) i h

  inked : start < length s → blank_at s start ≡ false
  unfolding word_start
  inked h = go start h (told (ink_at s) (length s - i) i)
    where
      go : (m : ℕ) → m < length s → Told (ink_at s) (length s - i) i m → blank_at s m ≡ false
      go m h (at a) = not-true _ a.holds
      go m h (nowhere w) = absurd (omega (arith, w.behind))

  -- a word has a letter
  pub ends : start < length s → (start < end) × (end ≤ length s)
  unfolding word_end
  ends h = go end (told (blank_at s) (length s - start) start)
    where
      go : (m : ℕ) → Told (blank_at s) (length s - start) start m → (start < m) × (m ≤ length s)
      go m (at a) = (other (eqb m start) refl, omega (arith, a.inside))
        where
          other : (t : Bool) → eqb m start ≡ t → start < m
          other true q = clash a.holds (rw (eqb-true m start q) (inked h))
          other false q = omega (arith, eqb-false m start q, a.from)
      go m (nowhere w) = (omega (arith, w.behind), omega (arith, w.behind))

  pub ends_there : (a : ℕ) → a ≡ start → a < length s → (a < word_end s a) × (word_end s a ≤ length s)
  ends_there a e h = rw e (ends (rw e at h))

  pub one_word : (n : ℕ) → start < length s → words_from (suc n) s i ≡ word_at s start ∷ words_from n s end
  unfolding words_from choose
  one_word n h = rw (lt-ltb start (length s) h)

  pub no_word : (n : ℕ) → length s ≤ start → words_from n s i ≡ []
  unfolding words_from choose
  no_word zero h = refl
  no_word (suc n) h = rw (le-ltb start (length s) h)

-- where a word begins and ends, by what is found in the rest of the line
pub first_ink : (s : List ℕ) (i : ℕ) → i ≤ length s → word_start s i ≡ found is_ink s i
unfolding word_start
first_ink s i h = place is_ink s i h

pub first_blank : (s : List ℕ) (i : ℕ) → i ≤ length s → word_end s i ≡ found is_blank s i
unfolding word_end
first_blank s i h = place is_blank s i h

-- enough is enough
pub enough : (n m : ℕ) (s : List ℕ) (i : ℕ) → i ≤ length s → length s ≤ i + n → length s ≤ i + m → words_from n s i ≡ words_from m s i
enough zero m s i h a b = let g = starts s i h in no_word s i zero (omega arith) ∙ sym (no_word s i m (omega arith))
enough (suc n) m s i h a b = go (ltb (start s i) (length s)) refl m b (λ k. enough n k s (end s i))
  where
    go : (t : Bool) → ltb (start s i) (length s) ≡ t → (m : ℕ) → length s ≤ i + m
        → ((k : ℕ) → end s i ≤ length s → length s ≤ end s i + n → length s ≤ end s i + k → words_from n s (end s i) ≡ words_from k s (end s i))
        → words_from (suc n) s i ≡ words_from m s i
    go false q m b ih = let l = ltb-false _ _ q in no_word s i (suc n) l ∙ sym (no_word s i m l)
    go true q zero b ih = let g = starts s i h in absurd (omega (arith, ltb-true (start s i) (length s) q))
    go true q (suc m) b ih =
        let l = ltb-true _ _ q in
        let g = starts s i h in
        let e = ends s i l in
        one_word s i n l
        ∙ ap (λ (ws : List (List ℕ)). word_at s (start s i) ∷ ws) (ih m e.1 (omega arith) (omega arith))
        ∙ sym (one_word s i m l)

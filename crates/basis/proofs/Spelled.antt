-- A list is its elements, written out one by one.
use Prim.Native.Nat.{ℕ, zero, suc, ◌+◌, ◌≤◌, ◌<◌}
use mathlib.Core.Path.{◌≡◌, refl, sym, ◌∙◌, ap}
use mathlib.Core.List.{List, ◌∷◌}
use native.Mathlib.Numerals.{add-one}
use native.Mathlib.Nat.{add-zero, zero-add}
use native.Mathlib.Omega.{arith}
use lib.ListN.{length, drop, get_or, replicate, drop_of_length-le, get_or-eq_default}
use lib.Seq.{drop-cons}
use Rattle.basis.specs.Spell.{spell_behind, spell}

spelled_behind : (n j i : ℕ) (l : List ℕ) → i + j + n ≡ length l → spell_behind n j i l ≡ drop (i + j) l
spelled_behind zero j i l h = sym (drop_of_length-le l {i = i + j} (omega arith))
spelled_behind (suc n) j i l h =
    let next : i + (j + 1) ≡ i + j + 1 = omega arith in
    let rest : spell_behind n (j + 1) i l ≡ drop (i + j + 1) l = rw next at (spelled_behind n (j + 1) i l (omega arith)) in
    ap (λ (z : List ℕ). get_or l (i + j) 0 ∷ z) rest ∙ rw add-one (sym (drop-cons l (i + j) 0 (omega arith)))

pub spelled_from : (n i : ℕ) (l : List ℕ) → i + n ≡ length l → spell n i l ≡ drop i l
spelled_from n i l h = spelled_behind n 0 i l (omega arith) ∙ ap (λ (x : ℕ). drop x l) (add-zero i)

pub spelled : (n : ℕ) (l : List ℕ) → length l ≡ n → spell n 0 l ≡ l
spelled n l h = spelled_from n 0 l (omega arith)

-- behind its end there is nothing but 0
blank_behind : (n j i : ℕ) (l : List ℕ) → length l ≤ i → spell_behind n j i l ≡ replicate n 0
blank_behind zero j i l h = refl
blank_behind (suc n) j i l h =
    rw (get_or-eq_default l 0 {n = i + j} (omega arith))
    (ap (λ (z : List ℕ). 0 ∷ z) (blank_behind n (j + 1) i l h))

pub blank : (n i : ℕ) (l : List ℕ) → length l ≤ i → spell n i l ≡ replicate n 0
blank n i l h = blank_behind n 0 i l h

-- an element of what is written out
at_behind : (n a i : ℕ) (l : List ℕ) (j : ℕ) → j < n → get_or (spell_behind n a i l) j 0 ≡ get_or l (i + (a + j)) 0
at_behind zero a i l j h = absurd (omega arith)
at_behind (suc n) a i l zero h = let e : i + a ≡ i + (a + 0) = omega arith in ap (λ (x : ℕ). get_or l x 0) e
at_behind (suc n) a i l (suc j) h =
    let e : i + (a + 1 + j) ≡ i + (a + suc j) = omega arith in
    at_behind n (a + 1) i l j (omega arith) ∙ ap (λ (x : ℕ). get_or l x 0) e

pub at_place : (n i : ℕ) (l : List ℕ) (j : ℕ) → j < n → get_or (spell n i l) j 0 ≡ get_or l (i + j) 0
at_place n i l j h = at_behind n 0 i l j h ∙ ap (λ (x : ℕ). get_or l (i + x) 0) (zero-add j)

-- two lists that agree place by place
alike_behind : (n a i m : ℕ) (l k : List ℕ) → ((j : ℕ) → j < a + n → get_or l (i + j) 0 ≡ get_or k (m + j) 0) → spell_behind n a i l ≡ spell_behind n a m k
alike_behind zero a i m l k h = refl
alike_behind (suc n) a i m l k h =
    let first : get_or l (i + a) 0 ≡ get_or k (m + a) 0 = h a (omega arith) in
    let rest : spell_behind n (a + 1) i l ≡ spell_behind n (a + 1) m k = alike_behind n (a + 1) i m l k (λ j g. h j (omega arith)) in
    λ x. first x ∷ rest x

pub alike : (n i m : ℕ) (l k : List ℕ) → ((j : ℕ) → j < n → get_or l (i + j) 0 ≡ get_or k (m + j) 0) → spell n i l ≡ spell n m k
alike n i m l k h = alike_behind n 0 i m l k (λ j g. h j (omega arith))

-- Bytes laid over a list from some place on, seen byte by byte.
use Prim.Native.Nat.{ℕ, ◌+◌, ◌-◌, ◌≤◌, ◌<◌}
use mathlib.Core.Path.{◌≡◌, sym, ◌∙◌, ap}
use mathlib.Core.List.{List, ◌++◌}
use native.Mathlib.Omega.{arith}
use lib.ListN.{length, take, drop, get_or, length-append, length-drop, get_or-append}
use lib.Seq.{length-take-le, get_or-take, get_or-drop, get_or-append-add}
use Rattle.basis.specs.Laid.{laid}

past : (p q : List ℕ) (n i : ℕ) → length p ≡ n → get_or (p ++ q) (n + i) 0 ≡ get_or q i 0
past p q n i e = rw (← e) (get_or-append-add p q i 0)

module _ (a : ℕ) (l bytes : List ℕ) (h : a + length bytes ≤ length l) where
  taken : length (take a l) ≡ a
  taken = length-take-le a l (omega arith)

  pub length_over : length (take a l ++ laid bytes (drop a l)) ≡ length l
  length_over = simp (length-append, length-drop, taken) (omega arith)

  pub before : (i : ℕ) → i < a → get_or (take a l ++ laid bytes (drop a l)) i 0 ≡ get_or l i 0
  before i g = get_or-append (take a l) (laid bytes (drop a l)) 0 i (omega (arith, taken)) ∙ get_or-take a l i 0 g

  pub inside : (i : ℕ) → i < length bytes → get_or (take a l ++ laid bytes (drop a l)) (a + i) 0 ≡ get_or bytes i 0
  inside i g = past (take a l) (laid bytes (drop a l)) a i taken ∙ get_or-append bytes (drop (length bytes) (drop a l)) 0 i g

  pub behind : (i : ℕ) → length bytes ≤ i → get_or (take a l ++ laid bytes (drop a l)) (a + i) 0 ≡ get_or l (a + i) 0
  behind i g =
      let j : ℕ = i - length bytes in
      let e : length bytes + j ≡ i = omega arith in
      past (take a l) (laid bytes (drop a l)) a i taken
      ∙ ap (λ (x : ℕ). get_or (laid bytes (drop a l)) x 0) (sym e)
      ∙ get_or-append-add bytes (drop (length bytes) (drop a l)) j 0
      ∙ get_or-drop (length bytes) (drop a l) j 0
      ∙ ap (λ (x : ℕ). get_or (drop a l) x 0) e
      ∙ get_or-drop a l i 0

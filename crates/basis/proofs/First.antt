-- Laws of first positions.
use Prim.Native.Nat.{ℕ, zero, suc, pred, ◌+◌, ◌≤◌, ◌<◌}
use mathlib.Core.Path.{◌≡◌, refl, sym, ◌∙◌, ap}
use mathlib.Core.Bool.{Bool, true, false}
use native.Mathlib.Nat.{le_antisymm, zero-add, add-zero}
use native.Mathlib.Omega.{arith}
use lib.Dec.{eqb, leb}
use borrow.Author.Tests.{eqb-true, eqb-false, leb-true, leb-false}
use Rattle.basis.specs.Choice.{choose}
use Rattle.basis.specs.First.{first_from}
use Rattle.basis.proofs.Tests.{clash}

not_less : (i m : ℕ) → (m < i → ⊥) → i ≤ m
not_less i m h = go (leb i m) refl
  where
    go : (t : Bool) → leb i m ≡ t → i ≤ m
    go true q = leb-true i m q
    go false q = absurd (h (leb-false i m q))

-- of anything that can be said of positions there is one first
pub one_first : (P : ℕ → Type 0) (j k : ℕ) → P j → ((i : ℕ) → i < j → P i → ⊥) → P k → ((i : ℕ) → i < k → P i → ⊥) → j ≡ k
one_first P j k p before q sooner = le_antisymm (not_less j k (λ h. before k h q)) (not_less k j (λ h. sooner j h p))

module _ (P : ℕ → Bool) where
  -- none is left; it is here; it is further on
  pub none : (k : ℕ) → first_from P 0 k ≡ k
  unfolding first_from
  none k = refl

  opened : (n k : ℕ) → 0 < n → first_from P n k ≡ choose (P k) k (first_from P (pred n) (k + 1))
  unfolding first_from
  opened zero k h = absurd (omega arith)
  opened (suc n) k h = refl

  pub here : (n k : ℕ) → 0 < n → P k ≡ true → first_from P n k ≡ k
  unfolding choose
  here n k h e = rw (opened n k h, e)

  pub later : (n k : ℕ) → 0 < n → P k ≡ false → first_from P n k ≡ first_from P (pred n) (k + 1)
  unfolding choose
  later n k h e = rw (opened n k h, e)

  -- m is the first of the n positions from k on
  pub record At (n k m : ℕ) : Type 0 where
    pub from : k ≤ m
    pub inside : m < k + n
    pub holds : P m ≡ true
    pub before : (j : ℕ) → k ≤ j → j < m → P j ≡ false

  -- it is none of them
  pub record Nowhere (n k m : ℕ) : Type 0 where
    pub behind : m ≡ k + n
    pub never : (j : ℕ) → k ≤ j → j < k + n → P j ≡ false

  pub data Told (n k m : ℕ) : Type 0 where
    at : At n k m → Told n k m
    nowhere : Nowhere n k m → Told n k m

  -- what holds at k and from k + 1 on holds from k on
  from_here : (k m : ℕ) → P k ≡ false → ((j : ℕ) → k + 1 ≤ j → j < m → P j ≡ false) → (j : ℕ) → k ≤ j → j < m → P j ≡ false
  from_here k m e f j a b = go (eqb j k) refl
    where
      go : (t : Bool) → eqb j k ≡ t → P j ≡ false
      go true q = rw (eqb-true j k q) e
      go false q = f j (omega (arith, eqb-false j k q)) b

  -- what the definition gives is one or the other
  pub told : (n k : ℕ) → Told n k (first_from P n k)
  told zero k = rw (none k) (nowhere (record { behind = omega arith; never = λ j a b. absurd (omega arith) }))
  told (suc n) k = go (P k) refl (told n (k + 1))
    where
      on : (m : ℕ) → P k ≡ false → Told n (k + 1) m → Told (suc n) k m
      on m e (at a) = at (record { from = omega (arith, a.from); inside = omega (arith, a.inside); holds = a.holds; before = from_here k m e a.before })
      on m e (nowhere w) = nowhere (record { behind = omega (arith, w.behind); never = λ j a b. from_here k (k + suc n) e (λ i c d. w.never i c (omega arith)) j a b })

      go : (b : Bool) → P k ≡ b → Told n (k + 1) (first_from P n (k + 1)) → Told (suc n) k (first_from P (suc n) k)
      go true e ih = rw (here (suc n) k (omega arith) e) (at (record { from = omega arith; inside = omega arith; holds = e; before = λ j a b. absurd (omega arith) }))
      go false e ih = rw (later (suc n) k (omega arith) e) (on (first_from P n (k + 1)) e ih)

  -- there is one first position
  pub unique : (n k m : ℕ) → At n k m → first_from P n k ≡ m
  unique n k m a = go (first_from P n k) (told n k)
    where
      go : (i : ℕ) → Told n k i → i ≡ m
      go i (at b) = le_antisymm (not_less i m (λ h. clash a.holds (b.before m a.from h))) (not_less m i (λ h. clash b.holds (a.before i b.from h)))
      go i (nowhere w) = clash a.holds (w.never m a.from a.inside)

  -- where it fails at the first a positions, the search is one from behind them
  pub skipped : (a n k : ℕ) → ((j : ℕ) → k ≤ j → j < k + a → P j ≡ false) → first_from P (a + n) k ≡ first_from P n (k + a)
  skipped zero n k f = rw (zero-add, add-zero)
  skipped (suc a) n k f =
      let p : pred (suc a + n) ≡ a + n = omega arith in
      let q : k + 1 + a ≡ k + suc a = omega arith in
      later (suc a + n) k (omega arith) (f k (omega arith) (omega arith))
      ∙ ap (λ (x : ℕ). first_from P x (k + 1)) p
      ∙ skipped a n (k + 1) (λ j g h. f j (omega arith) (omega arith))
      ∙ ap (λ (x : ℕ). first_from P n x) q

-- a test that is another one, a positions further on
pub shifted : (P Q : ℕ → Bool) (a : ℕ) → ((j : ℕ) → P (a + j) ≡ Q j) → (n k : ℕ) → first_from P n (a + k) ≡ a + first_from Q n k
shifted P Q a f zero k = none P (a + k) ∙ ap (λ (x : ℕ). a + x) (sym (none Q k))
shifted P Q a f (suc n) k = go (Q k) refl (shifted P Q a f n (k + 1))
  where
    go : (b : Bool) → Q k ≡ b → first_from P n (a + (k + 1)) ≡ a + first_from Q n (k + 1) → first_from P (suc n) (a + k) ≡ a + first_from Q (suc n) k
    go true e ih = here P (suc n) (a + k) (omega arith) (f k ∙ e) ∙ ap (λ (x : ℕ). a + x) (sym (here Q (suc n) k (omega arith) e))
    go false e ih =
        let q : a + k + 1 ≡ a + (k + 1) = omega arith in
        later P (suc n) (a + k) (omega arith) (f k ∙ e)
        ∙ ap (λ (x : ℕ). first_from P n x) q
        ∙ ih
        ∙ ap (λ (x : ℕ). a + x) (sym (later Q (suc n) k (omega arith) e))

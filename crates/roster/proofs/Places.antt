-- A search from place to place: what is left to look at from place k on ends where the whole search does.
use Prim.Native.Nat.{ℕ, zero, suc, pred, ◌+◌, ◌-◌, ◌≤◌, ◌<◌}
use mathlib.Core.Path.{◌≡◌, refl, sym, ◌∙◌, ap}
use mathlib.Core.Bool.{Bool, true, false, cond, not}
use mathlib.Core.List.{List, [], ◌∷◌}
use native.Mathlib.Nat.{add-zero, sub-zero}
use native.Mathlib.Omega.{arith}
use Rattle.std.proofs.lemmas.Bool.Decides.{nat_tests}
use lib.ListN.{length, get_or, take, drop, drop_of_length-le}
use lib.Seq.{drop-cons}
use Rattle.std.specs.Prelude.{unwrap_or, position}
use Rattle.std.specs.List.{position_or_len}
use Rattle.basis.specs.First.{first_from}
use Rattle.basis.proofs.Laid.{rest}
use Rattle.basis.proofs.First.{none, here, later, Told, at, nowhere, told}

-- among the places from i up to n
pub record Sought (P : ℕ → Bool) (n i k : ℕ) : Type 0 where
  pub inside : k ≤ n
  pub gives : first_from P (n - k) k ≡ first_from P (n - i) i

module _ (P : ℕ → Bool) (n i : ℕ) where
  pub begun : i ≤ n → Sought P n i i
  begun h = record { inside = h; gives = refl }

  -- where it is found it is in reach, and not before the start
  pub bounds : i ≤ n → (i ≤ first_from P (n - i) i) × (first_from P (n - i) i ≤ n)
  bounds h = go (first_from P (n - i) i) (told P (n - i) i)
    where
      go : (m : ℕ) → Told P (n - i) i m → (i ≤ m) × (m ≤ n)
      go m (at a) = (a.from, omega (arith, a.inside))
      go m (nowhere w) = (omega (arith, w.behind), omega (arith, w.behind))

  module _ (k : ℕ) (p : Sought P n i k) where
    pub met : k < n → P k ≡ true → k ≡ first_from P (n - i) i
    met h e = sym (here P (n - k) k (omega arith) e) ∙ p.gives

    pub passed : k < n → P k ≡ false → Sought P n i (k + 1)
    passed h e =
        let q : n - (k + 1) ≡ pred (n - k) = omega arith in
        record { inside = omega arith; gives = rw q (sym (later P (n - k) k (omega arith) e) ∙ p.gives) }

    pub ended : n ≤ k → k ≡ first_from P (n - i) i
    ended h = let q : n - k ≡ 0 = omega arith in sym (none P k) ∙ rw q at p.gives

-- turn by turn
pub ruleset search_steps = (begun, met, passed, ended, sub-zero)

-- of the bytes from place i on: how many stand before the first that passes, which are all where none does
module _ (t : ℕ → Bool) (s : List ℕ) where
  abbrev passes : ℕ → Bool
  passes k = t (get_or s k 0)

  counted : (n i : ℕ) → i + n ≡ length s → i + position_or_len t (drop i s) ≡ first_from passes n i
  counted zero i e = let h : length s ≤ i = omega arith in rw (drop_of_length-le s h) (add-zero i ∙ sym (none passes i))
  counted (suc n) i e =
      let h : i < length s = omega arith in
      let far : suc i + n ≡ length s = omega arith in
      rw (drop-cons s i 0 h) (go (t (get_or s i 0)) refl (counted n (suc i) far))
    where
      go : (b : Bool) → t (get_or s i 0) ≡ b → suc i + position_or_len t (drop (suc i) s) ≡ first_from passes n (suc i)
          → i + cond (not b) (1 + position_or_len t (drop (suc i) s)) 0 ≡ first_from passes (suc n) i
      go true q ih = add-zero i ∙ sym (here passes (suc n) i (omega arith) q)
      go false q ih =
          let next : suc i ≡ i + 1 = omega arith in
          let first : i + (1 + position_or_len t (drop (suc i) s)) ≡ suc i + position_or_len t (drop (suc i) s) = omega arith in
          first ∙ ih ∙ ap (λ (z : ℕ). first_from passes n z) next ∙ sym (later passes (suc n) i (omega arith) q)

  few : (xs : List ℕ) → position_or_len t xs ≤ length xs
  few [] = omega arith
  few (x ∷ xs) = grind (arith, few xs)

  whole : (xs : List ℕ) → unwrap_or (position t xs) (length xs) ≡ position_or_len t xs
  whole xs = grind (arith, few, nat_tests)

  -- the first place from i on where one passes
  abbrev pub found : ℕ → ℕ
  found i = let part : List ℕ = take (length s - i) (drop i s) in i + unwrap_or (position t part) (length part)

  pub place : (i : ℕ) → i ≤ length s → first_from passes (length s - i) i ≡ found i
  place i h =
      let far : i + (length s - i) ≡ length s = omega arith in
      let part = whole (take (length s - i) (drop i s)) ∙ ap (position_or_len t) (rest i s) in
      sym (ap (λ (z : ℕ). i + z) part ∙ counted (length s - i) i far)

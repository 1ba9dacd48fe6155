-- Where two rows of addresses agree, the same seats are found in them. The low byte tells addresses apart.
use Prim.Native.Nat.{ℕ, zero, suc, ◌+◌, ◌<◌}
use mathlib.Core.Path.{◌≡◌, refl, ap, sym, ◌∙◌}
use mathlib.Core.Logic.{◌≢◌}
use mathlib.Core.Bool.{Bool, true, false, ◌&&◌}
use native.Mathlib.Omega.{arith}
use lib.Dec.{eqb, ltb}
use borrow.Author.Tests.{eqb-true, eq-eqb, ne_eqb, le-ltb}
use Rattle.basis.specs.First.{first_from}
use Rattle.basis.proofs.First.{none, here, later, Told, at, nowhere, told}
use Rattle.basis.proofs.Tests.{both, clash}
use Rattle.wire.specs.declared.address.Address.{Address}
use Rattle.wire.specs.Bytes.{equals}
use Rattle.row.specs.Row.{seat_named, is_taken, is_doubled}

-- one address has one spelling
pub same_address : (a b : Address) → equals a b ≡ true → a ≡ b
same_address a b h =
    let p = both (eqb a.high b.high && eqb a.middle b.middle) (eqb a.low b.low) h in
    let q = both (eqb a.high b.high) (eqb a.middle b.middle) p.0 in
    (λ i. record { high = eqb-true a.high b.high q.0 i; middle = eqb-true a.middle b.middle q.1 i; low = eqb-true a.low b.low p.1 i })

pub itself : (a : Address) → equals a a ≡ true
itself a = rw (eq-eqb a.high a.high refl, eq-eqb a.middle a.middle refl, eq-eqb a.low a.low refl)

-- two tests that agree hold first at one place
pub first_agrees : (P Q : ℕ → Bool) (n k : ℕ) → ((j : ℕ) → j < k + n → P j ≡ Q j) → first_from P n k ≡ first_from Q n k
first_agrees P Q zero k f = none P k ∙ sym (none Q k)
first_agrees P Q (suc n) k f = go (Q k) refl (first_agrees P Q n (k + 1) (λ j h. f j (omega (arith, h))))
  where
    go : (b : Bool) → Q k ≡ b → first_from P n (k + 1) ≡ first_from Q n (k + 1) → first_from P (suc n) k ≡ first_from Q (suc n) k
    go true q ih = here P (suc n) k (omega arith) (f k (omega arith) ∙ q) ∙ sym (here Q (suc n) k (omega arith) q)
    go false q ih = later P (suc n) k (omega arith) (f k (omega arith) ∙ q) ∙ ih ∙ sym (later Q (suc n) k (omega arith) q)

module _ (u v : ℕ → Address) where
  pub named_agrees : (n : ℕ) (a : Address) → ((j : ℕ) → j < n → u j ≡ v j) → seat_named u n a ≡ seat_named v n a
  named_agrees n a f = first_agrees (λ (i : ℕ). equals a (u i)) (λ (i : ℕ). equals a (v i)) n 0 (λ j h. ap (equals a) (f j (omega (arith, h))))

  taken_agrees : (i : ℕ) → ((j : ℕ) → j < i + 1 → u j ≡ v j) → is_taken u i ≡ is_taken v i
  taken_agrees i f =
      ap (λ (a : Address). ltb (seat_named u i a) i) (f i (omega arith))
      ∙ ap (λ (k : ℕ). ltb k i) (named_agrees i (v i) (λ j h. f j (omega (arith, h))))

  pub doubled_agrees : (n : ℕ) → ((j : ℕ) → j < n → u j ≡ v j) → is_doubled u n ≡ is_doubled v n
  doubled_agrees n f = ap (λ (k : ℕ). ltb k n) (first_agrees (is_taken u) (is_taken v) n 0 (λ j h. taken_agrees j (λ i g. f i (omega (arith, g, h)))))

-- a seat that is found has the name
pub found : (v : ℕ → Address) (n : ℕ) (a : Address) → seat_named v n a < n → equals a (v (seat_named v n a)) ≡ true
found v n a inside = go (seat_named v n a) inside (told (λ (i : ℕ). equals a (v i)) n 0)
  where
    go : (k : ℕ) → k < n → Told (λ (i : ℕ). equals a (v i)) n 0 k → equals a (v k) ≡ true
    go k h (at x) = x.holds
    go k h (nowhere x) = absurd (omega (arith, h, x.behind))

-- an address with another low byte is another one
pub low_differs : (a b : Address) → a.low ≢ b.low → equals a b ≡ false
low_differs a b h = rw (ne_eqb a.low b.low h) (last-fails (eqb a.high b.high) (eqb a.middle b.middle))
  where
    last-fails : (x y : Bool) → x && y && false ≡ false
    last-fails true true = refl
    last-fails true false = refl
    last-fails false y = refl

-- where no seat before it has a seat's low byte, none has its name
pub not_taken : (v : ℕ → Address) (i : ℕ) → ((j : ℕ) → j < i → (v i).low ≢ (v j).low) → is_taken v i ≡ false
not_taken v i new = go (seat_named v i (v i)) (told (λ (j : ℕ). equals (v i) (v j)) i 0)
  where
    go : (k : ℕ) → Told (λ (j : ℕ). equals (v i) (v j)) i 0 k → ltb k i ≡ false
    go k (at x) = clash x.holds (low_differs (v i) (v k) (new k (omega (arith, x.inside))))
    go k (nowhere x) = le-ltb k i (omega (arith, x.behind))

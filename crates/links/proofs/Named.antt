-- What an address names, by its number.
use Prim.Native.Nat.{ℕ, ◌+◌, ◌*◌, ◌<◌}
use mathlib.Core.Path.{◌≡◌, refl}
use native.Mathlib.Omega.{arith}
use lib.Dec.{ltb}
use borrow.Author.Tests.{eq-eqb, ne_eqb, lt-ltb, le-ltb, eqb-true}
use Rattle.std.specs.Prelude.{Some, None}
use Rattle.basis.specs.Choice.{choose}
use Rattle.basis.specs.First.{first_from}
use Rattle.basis.proofs.First.{Told, at, nowhere, told, unique}
use Rattle.links.specs.Name.{name_of, meant, names, place_of}

module _ (n address : ℕ) where
  pub legal : (k : ℕ) → k < n → meant address + 8 * k ≡ 0x0fff → place_of n address ≡ Some k
  unfolding place_of choose
  legal k h e = rw (it, lt-ltb k n h)
    where
      it : first_from (names (meant address)) n 0 ≡ k
      it =
          unique (names (meant address)) n 0 k
          (record { from = omega arith; inside = omega arith; holds = eq-eqb _ 0x0fff e; before = λ j a b. ne_eqb (meant address + 8 * j) 0x0fff (omega arith) })

  pub illegal : ((k : ℕ) → k < n → meant address + 8 * k ≡ 0x0fff → ⊥) → place_of n address ≡ None
  unfolding place_of choose
  illegal h = go (first_from (names (meant address)) n 0) (told (names (meant address)) n 0)
    where
      go : (k : ℕ) → Told (names (meant address)) n 0 k → choose (ltb k n) (Some k) None ≡ None
      go k (at a) = absurd (h k (omega (arith, a.inside)) (eqb-true (meant address + 8 * k) 0x0fff a.holds))
      go k (nowhere w) = rw (le-ltb k n (omega (arith, w.behind)))

-- an address that names a record means that record's name
pub named : (n address k : ℕ) → place_of n address ≡ Some k → (k < n) × (meant address + 8 * k ≡ 0x0fff)
unfolding place_of choose
named n address k e = go (first_from (names (meant address)) n 0) (told (names (meant address)) n 0) e
  where
    go : (j : ℕ) → Told (names (meant address)) n 0 j → choose (ltb j n) (Some j) None ≡ Some k
        → (k < n) × (meant address + 8 * k ≡ 0x0fff)
    go j (at a) q =
        let there : Some j ≡ Some k = rw (lt-ltb j n (omega (arith, a.inside))) at q in
        let same : j ≡ k = cc in
        (omega (arith, a.inside), rw same at (eqb-true (meant address + 8 * j) 0x0fff a.holds))
    go j (nowhere w) q =
        let gone : None ≡ Some k = rw (le-ltb j n (omega (arith, w.behind))) at q in
        absurd (let z : ◌≡◌ {A = ℕ} 0 1 = cc in omega arith)

-- 0000 means 0FFF, and any other address itself
pub zero_means : meant 0x0000 ≡ 0x0fff
unfolding meant choose
zero_means = refl

pub itself : (address : ℕ) → ¬ (address ≡ 0x0000) → meant address ≡ address
unfolding meant choose
itself address h = rw (ne_eqb address 0x0000 h)

-- 0000 names what 0FFF names
pub first_named : (n : ℕ) → place_of n 0x0000 ≡ place_of n 0x0fff
unfolding place_of meant choose
first_named n = refl

-- the name that a record is sent with names it
pub own_name : (n k : ℕ) → k < n → k < 512 → place_of n (name_of k) ≡ Some k
own_name n k h g = legal n (name_of k) k h (rw (itself (name_of k) (omega arith)) (omega arith))

-- The flag rule keeps flags within their width.
use Prim.Native.Nat.{ℕ, ◌+◌, ◌-◌, ◌*◌, ◌^◌, ◌/◌, ◌%◌, ◌≤◌, ◌<◌}
use mathlib.Core.Path.{◌≡◌, refl, sym, ◌∙◌, ap}
use mathlib.Core.Bool.{Bool, true, false}
use native.Mathlib.Nat.{div-add-mod', mod-lt, mul-le-mul_right}
use native.Mathlib.Omega.{arith}
use lib.Dec.{ltb}
use lib.Pow.{pow_pos, pow-add}
use borrow.Author.Tests.{eqb-true, eqb-false, ltb-true, ltb-false}
use Rattle.basis.specs.Numbers.{is_set}

-- an even number of halves, and a rest, below a whole number of wholes: there is room for one half more
half_more : (f p r k n : ℕ) → 2 * k * p + r ≡ f → r < p → f < n * (2 * p) → f + p < n * (2 * p)
half_more f p r k n e h g = go (ltb k n) refl
  where
    go : (t : Bool) → ltb k n ≡ t → f + p < n * (2 * p)
    go true q = omega (arith, mul-le-mul_right p (ltb-true k n q))
    go false q = absurd (omega (arith, mul-le-mul_right p (ltb-false k n q)))

-- where bit b is clear there is room for it
pub room_for : (w b f : ℕ) → b < w → f < 2 ^ w → is_set b f ≡ false → f + 2 ^ b < 2 ^ w
room_for w b f h g e =
    let p : ℕ = 2 ^ b in
    let n : ℕ = 2 ^ (w - (1 + b)) in
    let there : w - (1 + b) + (1 + b) ≡ w = omega arith in
    let split : 2 ^ w ≡ n * (2 * p) = ap (λ (x : ℕ). 2 ^ x) (sym there) ∙ pow-add 2 (w - (1 + b)) (1 + b) ∙ ap (λ (x : ℕ). n * x) (pow-add 2 1 b) in
    let even : f / p ≡ 2 * (f / p / 2) = omega (arith, eqb-false (f / p % 2) 1 e) in
    let whole : 2 * (f / p / 2) * p + f % p ≡ f = ap (λ (x : ℕ). x * p + f % p) (sym even) ∙ div-add-mod' f p in
    rw split (half_more f p (f % p) (f / p / 2) n whole (mod-lt f (pow_pos b)) (rw split at g))

-- where it is set it can be taken
pub part_of : (b f : ℕ) → is_set b f ≡ true → 2 ^ b ≤ f
part_of b f e =
    let p : ℕ = 2 ^ b in
    let some : 1 ≤ f / p = omega (arith, eqb-true (f / p % 2) 1 e) in
    omega (arith, div-add-mod' f p, mul-le-mul_right p some)

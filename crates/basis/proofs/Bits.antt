-- The flag rule, bit by bit.
use Prim.Native.Nat.{ℕ, ◌+◌, ◌-◌, ◌*◌, ◌^◌, ◌/◌, ◌%◌, ◌<◌}
use mathlib.Core.Path.{◌≡◌, refl, sym, ◌∙◌, ap}
use mathlib.Core.Bool.{Bool, true, false}
use native.Mathlib.Nat.{add-div_right, add-mul-div_left, div-div-eq-div-mul}
use native.Mathlib.Omega.{arith}
use lib.Dec.{eqb, ltb}
use lib.Pow.{pow_pos, pow-add}
use borrow.Author.Tests.{eqb-true, eqb-false, eq-eqb, ne_eqb, ltb-true, ltb-false}
use Rattle.basis.specs.Numbers.{is_set}
use Rattle.basis.specs.Flags.{set_bit, clear_bit, SetIn, ClearIn}
use Rattle.basis.proofs.Choice.{by}
use Rattle.basis.proofs.Flags.{room_for, part_of}

-- the power of a higher bit is a number of twice that of a lower one
twice : (a d : ℕ) → 2 ^ (a + (1 + d)) ≡ 2 ^ a * (2 * 2 ^ d)
twice a d = pow-add 2 a (1 + d) ∙ ap (λ (x : ℕ). 2 ^ a * x) (pow-add 2 1 d)

module _ (b f : ℕ) (clear : is_set b f ≡ false) where
  abbrev halves : ℕ
  halves = f / 2 ^ b

  odd : (f + 2 ^ b) / 2 ^ b % 2 ≡ 1
  odd = rw (add-div_right f (pow_pos b)) (omega (arith, eqb-false (halves % 2) 1 clear))

  pub set_there : is_set b (f + 2 ^ b) ≡ true
  set_there = eq-eqb ((f + 2 ^ b) / 2 ^ b % 2) 1 odd

  -- nothing is carried
  above : (d : ℕ) → (f + 2 ^ b) / 2 ^ (b + (1 + d)) ≡ f / 2 ^ (b + (1 + d))
  above d =
      let n : ℕ = 2 ^ d in
      let apart : (x : ℕ) → x / 2 ^ (b + (1 + d)) ≡ x / 2 ^ b / 2 / n =
      λ x. ap (λ (y : ℕ). x / y) (twice b d) ∙ sym (div-div-eq-div-mul x (2 ^ b) (2 * n)) ∙ sym (div-div-eq-div-mul (x / 2 ^ b) 2 n) in
      let same : (halves + 1) / 2 ≡ halves / 2 = omega (arith, eqb-false (halves % 2) 1 clear) in
      apart (f + 2 ^ b) ∙ ap (λ (y : ℕ). y / 2 / n) (add-div_right f (pow_pos b)) ∙ ap (λ (y : ℕ). y / n) same ∙ sym (apart f)

  set_above : (j : ℕ) → b < j → is_set j (f + 2 ^ b) ≡ is_set j f
  set_above j h =
      let e : b + (1 + (j - (b + 1))) ≡ j = omega arith in
      ap (λ (y : ℕ). eqb (y % 2) 1) (rw e at (above (j - (b + 1))))

-- lower bits do not see it
under : (j d f : ℕ) → (f + 2 ^ (j + (1 + d))) / 2 ^ j % 2 ≡ f / 2 ^ j % 2
under j d f =
    let n : ℕ = 2 ^ d in
    let more : (f + 2 ^ (j + (1 + d))) / 2 ^ j ≡ f / 2 ^ j + 2 * n =
    ap (λ (y : ℕ). (f + y) / 2 ^ j) (twice j d) ∙ add-mul-div_left f (2 * n) (pow_pos j) in
    rw more (omega arith)

set_below : (b f j : ℕ) → j < b → is_set j (f + 2 ^ b) ≡ is_set j f
set_below b f j h =
    let e : j + (1 + (b - (j + 1))) ≡ b = omega arith in
    ap (λ (y : ℕ). eqb y 1) (rw e at (under j (b - (j + 1)) f))

-- every other bit stays where bit b was clear and is set
pub set_elsewhere : (b f : ℕ) → is_set b f ≡ false → (j : ℕ) → (j ≡ b → ⊥) → is_set j (f + 2 ^ b) ≡ is_set j f
set_elsewhere b f clear j other = go (ltb j b) refl
  where
    go : (t : Bool) → ltb j b ≡ t → is_set j (f + 2 ^ b) ≡ is_set j f
    go true q = set_below b f j (ltb-true j b q)
    go false q = set_above b f clear j (omega (arith, ltb-false j b q, other))

module _ (w b f : ℕ) (h : b < w) (g : f < 2 ^ w) where
  pub sets : SetIn w b f (set_bit b f)
  sets =
      by (SetIn w b f) (is_set b f)
      (λ e. record { named = e; others = λ j other. refl; inside = g })
      (λ e. record { named = set_there b f e; others = set_elsewhere b f e; inside = room_for w b f h g e })

  -- what is taken away was added
  taken : is_set b f ≡ true → ClearIn w b f (f - 2 ^ b)
  taken e = record { named = gone; others = λ j other. sym (set_elsewhere b (f - 2 ^ b) gone j other) ∙ ap (is_set j) whole; inside = omega arith }
    where
      whole : f - 2 ^ b + 2 ^ b ≡ f
      whole = omega (arith, part_of b f e)

      one_less : f / 2 ^ b ≡ (f - 2 ^ b) / 2 ^ b + 1
      one_less = ap (λ (x : ℕ). x / 2 ^ b) (sym whole) ∙ add-div_right (f - 2 ^ b) (pow_pos b)

      gone : is_set b (f - 2 ^ b) ≡ false
      gone = ne_eqb ((f - 2 ^ b) / 2 ^ b % 2) 1 (λ q. omega (arith, one_less, eqb-true (f / 2 ^ b % 2) 1 e))

  pub clears : ClearIn w b f (clear_bit b f)
  clears = by (ClearIn w b f) (is_set b f) taken (λ e. record { named = e; others = λ j other. refl; inside = g })

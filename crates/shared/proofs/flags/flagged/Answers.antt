-- A flag is set by a bitwise `|`, and cleared by a bitwise `&`.
use Prim.Native.Nat.{ℕ, ◌+◌, ◌-◌, ◌*◌, ◌/◌, ◌%◌, ◌^◌, ◌<◌}
use mathlib.Core.Path.{◌≡◌, ◌∙◌, ap}
use native.Mathlib.Omega.{arith}
use lib.Bits.{bit_and, bit_or, or_add_and, and_comm}
use borrow.Author.Tests.{eqb-true, eqb-false, eq-eqb, ne_eqb}
use Rattle.std.proofs.Common.{rules}
use Rattle.std.proofs.lemmas.Nat.{and-not}
use Rattle.std.proofs.lemmas.Nat.Bits.{and_pow}
use Rattle.basis.specs.Choice.{choose}
use Rattle.basis.specs.Numbers.{is_set}
use Rattle.basis.specs.Flags.{set_bit, clear_bit, flagged}
use Rattle.basis.proofs.Choice.{by}
use Rattle.shared.proofs.flags.flagged.Goals as goal

-- the bit, shifted to its place
placed : (b : ℕ) → b < 8 → 1 * 2 ^ b % 256 ≡ 2 ^ b
placed b h = search rules

small : (b : ℕ) → b < 8 → 2 ^ b < 2 ^ 8
small b h = search rules

module _ (b f : ℕ) where
  abbrev p : ℕ
  p = 2 ^ b

  taken : (x : ℕ) → f / p % 2 ≡ x → bit_and f p ≡ x * p
  taken x e = and_pow f b ∙ ap (λ (z : ℕ). z * p) e

  set : bit_or f p ≡ set_bit b f
  set =
      by (λ (z : ℕ). bit_or f p ≡ z) (is_set b f)
      (λ e. omega (arith, or_add_and f p, taken 1 (eqb-true (f / p % 2) 1 e)))
      (λ e. omega (arith, or_add_and f p, taken 0 (omega (arith, eqb-false (f / p % 2) 1 e))))

  cleared : p < 2 ^ 8 → f < 2 ^ 8 → bit_and f (255 - p) ≡ clear_bit b f
  cleared h g =
      let rest : bit_and f (255 - p) + bit_and f p ≡ f = rw (and_comm f (255 - p), and_comm f p) (and-not 8 p f h g) in
      by (λ (z : ℕ). bit_and f (255 - p) ≡ z) (is_set b f)
      (λ e. omega (arith, rest, taken 1 (eqb-true (f / p % 2) 1 e)))
      (λ e. omega (arith, rest, taken 0 (omega (arith, eqb-false (f / p % 2) 1 e))))

pub returns-then-code-eq0 : goal.returns-then-code-eq0
unfolding flagged choose
returns-then-code-eq0 c =
    let b : ℕ = c.args.code / 2 in
    rw (eq-eqb (c.args.code % 2) 0 (omega arith), placed b (omega arith)) (set b c.args.flags)

pub returns-else-code-eq0 : goal.returns-else-code-eq0
unfolding flagged choose
returns-else-code-eq0 c =
    let b : ℕ = c.args.code / 2 in
    rw (ne_eqb (c.args.code % 2) 0 (omega arith), placed b (omega arith)) (cleared b c.args.flags (small b (omega arith)) (omega arith))

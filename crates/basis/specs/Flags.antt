-- The flag rule, for flags of any width ("Direct commands, extended").
use Rattle.std.specs.Prelude.{ℕ, ◌+◌, ◌-◌, ◌^◌, ◌/◌, ◌%◌, ◌<◌, ◌≡◌, true, false, eqb}
use Rattle.basis.specs.Choice.{choose}
use Rattle.basis.specs.Numbers.{is_set}

-- the flags with bit b set, and with bit b clear; every other bit stays
abbrev pub set_bit : ℕ → ℕ → ℕ
set_bit b flags = choose (is_set b flags) flags (flags + 2 ^ b)

abbrev pub clear_bit : ℕ → ℕ → ℕ
clear_bit b flags = choose (is_set b flags) (flags - 2 ^ b) flags

-- code 2 x b sets bit b, and code 2 x b + 1 clears it
unfoldable pub flagged : ℕ → ℕ → ℕ
flagged code flags = choose (eqb (code % 2) 0) (set_bit (code / 2) flags) (clear_bit (code / 2) flags)

-- bit by bit: of w bits bit b is set, and every other one stays
pub record SetIn (w b flags after : ℕ) : Type 0 where
  pub named : is_set b after ≡ true
  pub others : (j : ℕ) → (j ≡ b → ⊥) → is_set j after ≡ is_set j flags
  pub inside : after < 2 ^ w

-- and is clear
pub record ClearIn (w b flags after : ℕ) : Type 0 where
  pub named : is_set b after ≡ false
  pub others : (j : ℕ) → (j ≡ b → ⊥) → is_set j after ≡ is_set j flags
  pub inside : after < 2 ^ w

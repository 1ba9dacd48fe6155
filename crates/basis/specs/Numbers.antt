-- Numbers as the paper reads them: bits, bit 0 the lowest, and ranges.
use Rattle.std.specs.Prelude.{ℕ, ◌^◌, ◌/◌, ◌%◌, Bool, ◌&&◌, eqb, leb}

abbrev pub is_set : ℕ → ℕ → Bool
is_set b x = eqb (x / 2 ^ b % 2) 1

-- x is one of a to b
abbrev pub within : ℕ → ℕ → ℕ → Bool
within a b x = leb a x && leb x b

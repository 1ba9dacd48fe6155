-- The sum that a chain adds up is that of the column.
use Prim.Native.Nat.{ℕ, ◌+◌}
use mathlib.Core.Path.{◌≡◌, ◌∙◌}
use mathlib.Core.List.{List, [], ◌∷◌}
use native.Mathlib.Omega.{arith}
use Rattle.std.specs.List.{fold, sum}
use Rattle.wire.specs.Checksum.{sum_of}

behind : (a : ℕ) (xs : List ℕ) → fold (λ b x. b + x) a xs ≡ a + sum_of xs
behind a [] = omega arith
behind a (x ∷ xs) = behind (a + x) xs ∙ omega arith

pub added : (xs : List ℕ) → sum xs ≡ sum_of xs
added xs = behind 0 xs ∙ omega arith

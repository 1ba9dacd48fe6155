-- The first position at which a test holds.
use Rattle.std.specs.Prelude.{ℕ, zero, suc, ◌+◌, Bool}
use Rattle.basis.specs.Choice.{choose}

-- of the n positions from k on; where it holds at none, the position behind them
unfoldable pub first_from : (ℕ → Bool) → ℕ → ℕ → ℕ
first_from P zero k = k
first_from P (suc n) k =
    let later : ℕ = first_from P n (k + 1) in
    choose (P k) k later

-- of the positions below n
abbrev pub first : (ℕ → Bool) → ℕ → ℕ
first P n = first_from P n 0

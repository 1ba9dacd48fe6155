use Rattle.std.specs.Prelude.{ℕ, ◌<◌, ◌≤◌, Option, Some, None, Result, Ok, Err}

-- more bytes than n, and no more than there is room for; none where no more come, or where the read failed
abbrev pub Grown : {E : Type 0} → ℕ → ℕ → Result (Option ℕ) E → Type 0
Grown n most (Ok (Some k)) = (n < k) × (k ≤ most)
Grown n most (Ok None) = Unit {0}
Grown n most (Err e) = Unit {0}

-- A line as contracts see it.
use Rattle.std.specs.Prelude.{ℕ, List, take, drop}

-- what is laid in a lent buffer, and what stands behind it there
pub record Page : Type 0 where
  pub laid : List ℕ
  pub behind : List ℕ

abbrev pub cut_at : ℕ → List ℕ → Page
cut_at n bytes = record { laid = take n bytes; behind = drop n bytes }

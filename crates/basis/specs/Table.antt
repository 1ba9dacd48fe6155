-- A table of the paper: what stands beside a number.
use Rattle.std.specs.Prelude.{ℕ, List, [], ◌∷◌, eqb}
use Rattle.basis.specs.Choice.{choose}

-- a row: a number, and what stands beside it
pub record Row (A : Type 0) : Type 0 where
  pub key : ℕ
  pub value : A

infix 70 ◌⇒◌
abbrev pub ◌⇒◌ : {A : Type 0} → ℕ → A → Row A
k ⇒ v = record { key = k; value = v }

-- what the first row with the number x holds, or `other` where there is none
abbrev pub among : {A : Type 0} → ℕ → A → List (Row A) → A
among x other [] = other
among x other (r ∷ rs) = choose (eqb x r.key) r.value (among x other rs)

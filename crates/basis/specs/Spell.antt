-- Elements of a list, written out one by one.
use Rattle.std.specs.Prelude.{ℕ, zero, suc, ◌+◌, List, [], ◌∷◌, get_or}

-- n elements, beginning with the j-th behind place i; 0 where there is none
abbrev pub spell_behind : ℕ → ℕ → ℕ → List ℕ → List ℕ
spell_behind zero j i l = []
spell_behind (suc n) j i l = get_or l (i + j) 0 ∷ spell_behind n (j + 1) i l

-- n elements from place i on
abbrev pub spell : ℕ → ℕ → List ℕ → List ℕ
spell n i l = spell_behind n 0 i l

-- The words of a line, parted by blanks and tabs; and what a line has before its comment.
use Rattle.std.specs.Prelude.{ℕ, zero, suc, ◌+◌, ◌-◌, Bool, not, ◌&&◌, ◌||◌, List, [], ◌∷◌, eqb, ltb, length, get_or, take, drop}
use Rattle.basis.specs.Choice.{choose}
use Rattle.basis.specs.First.{first, first_from}

-- what stands from the first # on is a comment; a line that ends with 0D and 0A ends before both
abbrev pub stops_at : List ℕ → ℕ → Bool
stops_at s k = eqb (get_or s k 0) 0x23 || (eqb (k + 1) (length s) && eqb (get_or s k 0) 0x0d)

unfoldable pub bare_length : List ℕ → ℕ
bare_length s = first (stops_at s) (length s)

-- a blank or a tab
abbrev pub is_blank : ℕ → Bool
is_blank x = eqb x 0x20 || eqb x 0x09

abbrev pub is_ink : ℕ → Bool
is_ink x = not (is_blank x)

abbrev pub blank_at : List ℕ → ℕ → Bool
blank_at s k = is_blank (get_or s k 0)

abbrev pub ink_at : List ℕ → ℕ → Bool
ink_at s k = is_ink (get_or s k 0)

-- a word is as long as it can be: from a place on it begins where no blank is, and ends before the next blank or with the line
unfoldable pub word_start : List ℕ → ℕ → ℕ
word_start s at = first_from (ink_at s) (length s - at) at

unfoldable pub word_end : List ℕ → ℕ → ℕ
word_end s start = first_from (blank_at s) (length s - start) start

abbrev pub word_at : List ℕ → ℕ → List ℕ
word_at s start = take (word_end s start - start) (drop start s)

-- n words or fewer, from a place on
unfoldable pub words_from : ℕ → List ℕ → ℕ → List (List ℕ)
words_from zero s at = []
words_from (suc n) s at =
    let start : ℕ = word_start s at in
    choose (ltb start (length s)) (word_at s start ∷ words_from n s (word_end s start)) []

-- there are no more words than bytes
abbrev pub words_behind : List ℕ → ℕ → List (List ℕ)
words_behind s at = words_from (length s) s at

abbrev pub words_of : List ℕ → List (List ℕ)
words_of s = words_behind (take (bare_length s) s) 0

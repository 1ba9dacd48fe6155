-- The checksum ("Message bytes").
use Rattle.std.specs.Prelude.{ℕ, ◌+◌, ◌%◌, Bool, ◌&&◌, ◌||◌, not, List, [], ◌∷◌, eqb, drop}
use Rattle.wire.specs.Bytes.{command1_of, data_at, is_extended}

abbrev pub sum_of : List ℕ → ℕ
sum_of [] = 0
sum_of (x ∷ xs) = x + sum_of xs

-- the sum of Command 1 through Data 14 is a multiple of 256
abbrev pub is_sum_right : List ℕ → Bool
is_sum_right s = eqb (sum_of (drop 7 s) % 256) 0

-- Get Properties and Get Database, whose checksum is not checked
abbrev pub is_exempt : List ℕ → Bool
is_exempt s = (eqb (command1_of s) 0x2e || eqb (command1_of s) 0x2f) && eqb (data_at s 2) 0

-- result 4
abbrev pub is_sum_wrong : List ℕ → Bool
is_sum_wrong s = is_extended s && not (is_exempt s) && not (is_sum_right s)

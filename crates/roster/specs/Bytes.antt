-- Words that are bytes, of two hexadecimal digits each.
use Rattle.std.specs.Prelude.{ℕ, ◌+◌, ◌-◌, ◌*◌, List, [], ◌∷◌, ◌++◌, leb, length, Option, Some, None}
use Rattle.basis.specs.Choice.{choose}
use Rattle.basis.specs.Numbers.{within}

-- 0 to 9, A to F, a to f
unfoldable pub digit_of : ℕ → Option ℕ
digit_of x =
    choose (within 0x30 0x39 x) (Some (x - 0x30))
    (choose (within 0x41 0x46 x) (Some (x - 0x41 + 10))
    (choose (within 0x61 0x66 x) (Some (x - 0x61 + 10)) None))

-- what two digits make, where both are digits
abbrev pub pair : Option ℕ → Option ℕ → Option ℕ
pair None low = None
pair (Some high) None = None
pair (Some high) (Some low) = Some (high * 16 + low)

unfoldable pub byte_of : List ℕ → Option ℕ
byte_of [] = None
byte_of (high ∷ []) = None
byte_of (high ∷ low ∷ []) = pair (digit_of high) (digit_of low)
byte_of (high ∷ low ∷ more ∷ rest) = None

abbrev pub before : Option ℕ → Option (List ℕ) → Option (List ℕ)
before None bytes = None
before (Some b) None = None
before (Some b) (Some bytes) = Some (b ∷ bytes)

-- every word a byte
unfoldable pub all_bytes : List (List ℕ) → Option (List ℕ)
all_bytes [] = Some []
all_bytes (w ∷ ws) = before (byte_of w) (all_bytes ws)

abbrev pub behind : List ℕ → Option (List ℕ) → Option (List ℕ)
behind first None = None
behind first (Some bytes) = Some (first ++ bytes)

-- behind some bytes those that the words are; none where a word is no byte, or where they are more than seven
unfoldable pub bytes_behind : List ℕ → List (List ℕ) → Option (List ℕ)
bytes_behind first ws = choose (leb (length first + length ws) 7) (behind first (all_bytes ws)) None

abbrev pub bytes_of : List (List ℕ) → Option (List ℕ)
bytes_of ws = bytes_behind [] ws

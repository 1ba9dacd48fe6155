-- The next frame in what has arrived ("The program").
use Rattle.std.specs.Prelude.{ℕ, ◌+◌, Bool, ◌&&◌, ◌||◌, List, eqb, leb, length, get_or}
use Rattle.basis.specs.Choice.{choose}
use Rattle.basis.specs.First.{first}
use Rattle.modem.specs.declared.arrived.Seen.{Seen}

-- 02 50 or 02 51 stands at k
abbrev pub starts_at : List ℕ → ℕ → Bool
starts_at s k = eqb (get_or s k 0) 0x02 && (eqb (get_or s (k + 1) 0) 0x50 || eqb (get_or s (k + 1) 0) 0x51)

-- 02 is the last byte: the next one will tell
abbrev pub may_start_at : List ℕ → ℕ → Bool
may_start_at s k = eqb (get_or s k 0) 0x02 && eqb (k + 1) (length s)

abbrev pub stops_at : List ℕ → ℕ → Bool
stops_at s k = may_start_at s k || starts_at s k

-- the bytes before it are skipped, each alone; all are where none starts a frame
unfoldable pub frame_start : List ℕ → ℕ
frame_start s = first (stops_at s) (length s)

-- two bytes, and a standard or an extended message
abbrev pub size_at : List ℕ → ℕ → ℕ
size_at s k = choose (eqb (get_or s (k + 1) 0) 0x51) 25 11

-- a frame is answered once it is whole
abbrev pub seen_at : List ℕ → ℕ → Seen
seen_at s k = choose (leb (k + size_at s k) (length s)) (Seen.Whole k (size_at s k)) (Seen.Waiting k)

abbrev pub seek_of : List ℕ → Seen
seek_of s = seen_at s (frame_start s)

-- Bytes laid over the start of a lent slice.
use Rattle.std.specs.Prelude.{ℕ, List, ◌++◌, ltb, length, drop}
use Rattle.basis.specs.Choice.{choose}

-- the bytes first, and what stood behind them
abbrev pub laid : List ℕ → List ℕ → List ℕ
laid bytes room = bytes ++ drop (length bytes) room

-- nothing where they do not fit
unfoldable pub laid_if_fits : List ℕ → List ℕ → List ℕ
laid_if_fits room bytes = choose (ltb (length room) (length bytes)) room (laid bytes room)

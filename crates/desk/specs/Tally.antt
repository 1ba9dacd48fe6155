-- How many frames had each result, and of a class how many were for each seat, and for every seat.
use Rattle.std.specs.Prelude.{ℕ, ◌+◌, ◌%◌, ◌^◌, List, [], ◌∷◌, slice_index, slice_set}
use Rattle.row.specs.declared.progress.Whom.{Whom}
use Rattle.seating.specs.Heed.{Heed}
use Rattle.text.specs.declared.tally.Tally.{Tally}

-- one more; a count that is full begins anew
abbrev pub one_more : ℕ → ℕ
one_more n = (n + 1) % 2 ^ 64

-- at this place
abbrev pub counted_at : List ℕ → ℕ → List ℕ
counted_at counts k = slice_set counts k (one_more (slice_index counts k))

-- one more for this seat, for every seat, or for nobody
abbrev pub counted_for : Tally → Whom → Tally
counted_for tally (Whom.Seat i) = record tally { seats = counted_at tally.seats i }
counted_for tally Whom.All = record tally { every = one_more tally.every }
counted_for tally Whom.Nobody = record tally { nobody = one_more tally.nobody }

-- one more of this result, and whom it was for
abbrev pub counted_as : Tally → ℕ → Whom → Tally
counted_as tally number whom = counted_for (record tally { results = counted_at tally.results number }) whom

-- what came of a frame
abbrev pub counted : Tally → Heed → Tally
counted tally t = counted_as tally t.number t.whom

-- and of one frame after another
unfoldable pub counted_all : Tally → List Heed → Tally
counted_all tally [] = tally
counted_all tally (t ∷ ts) = counted_all (counted tally t) ts

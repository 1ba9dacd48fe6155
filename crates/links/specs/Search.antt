-- The search, and the number of records read ("Link memory").
use Rattle.std.specs.Prelude.{ℕ, ◌+◌, Bool, ◌&&◌, ◌||◌, List, eqb, ltb, Option, Some, None, Result, Ok, Err}
use Rattle.basis.specs.Choice.{choose}
use Rattle.basis.specs.First.{first}
use Rattle.links.specs.declared.memory.Link.{Link}
use Rattle.links.specs.declared.search.Wanted.{Wanted}
use Rattle.links.specs.declared.search.Missing.{Missing}
use Rattle.links.specs.declared.search.Searched.{Searched}
use Rattle.links.specs.Record.{records, record_at, link_of, is_in_use, is_responder, is_end_mark, bears}

-- a record that is looked for
abbrev pub answers : Wanted → List ℕ → Bool
answers (Wanted.Sender a) r = bears r a
answers (Wanted.Responder a g) r = bears r a && is_responder r && eqb (link_of r).group g

-- in use as well; that no end mark stands before it is seen by where the search stops
abbrev pub matches : Wanted → List ℕ → Bool
matches w r = is_in_use r && answers w r

-- the search stops at the first record that settles it: a match or the end mark
abbrev pub settles : Wanted → List ℕ → Bool
settles w r = is_end_mark r || matches w r

abbrev pub settles_at : List ℕ → Wanted → ℕ → Bool
settles_at l w k = settles w (record_at l k)

unfoldable pub stop_of : List ℕ → Wanted → ℕ
stop_of l w = first (settles_at l w) (records l)

-- the record that settled it is counted; where none did, all are
abbrev pub stopped_at : List ℕ → ℕ → Searched
stopped_at l k =
    choose (ltb k (records l))
    (choose (is_end_mark (record_at l k)) (record { read = k + 1; found = Err Missing.EndMark }) (record { read = k + 1; found = Ok (link_of (record_at l k)) }))
    (record { read = records l; found = Err Missing.MemoryEnd })

abbrev pub walk_of : List ℕ → Wanted → Searched
walk_of l w = stopped_at l (stop_of l w)

-- 0 where no search is made
abbrev pub unsearched : Searched
unsearched = record { read = 0; found = Err Missing.NoSearch }

-- a search is made for somebody
abbrev pub search_of : List ℕ → Option Wanted → Searched
search_of l (Some w) = walk_of l w
search_of l None = unsearched

-- what follows from the record found, or from none
abbrev pub if_found : {A : Type 0} → Result Link Missing → (Link → A) → A → A
if_found (Ok link) then none = then link
if_found (Err e) then none = none

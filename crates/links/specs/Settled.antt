-- What the search comes to, said by the places of records ("Link memory").
use Rattle.std.specs.Prelude.{ℕ, ◌+◌, ◌<◌, ◌≡◌, true, false, List, Ok, Err}
use Rattle.links.specs.declared.search.Wanted.{Wanted}
use Rattle.links.specs.declared.search.Missing.{Missing}
use Rattle.links.specs.declared.search.Searched.{Searched}
use Rattle.links.specs.Record.{records, record_at, link_of, is_end_mark}
use Rattle.links.specs.Live.{FirstUnused, Live}
use Rattle.links.specs.Search.{answers}

-- record k is live and is looked for
pub record LiveMatch (l : List ℕ) (w : Wanted) (k : ℕ) : Type 0 where
  pub live : Live l k
  pub wanted : answers w (record_at l k) ≡ true

-- the first such record decides; else the end mark ends it; else it goes through all records. The count is that of the records read.
pub data Settled (l : List ℕ) (w : Wanted) : Searched → Type 0 where
  matched : (k : ℕ) → LiveMatch l w k → ((j : ℕ) → j < k → LiveMatch l w j → ⊥)
      → Settled l w (record { read = k + 1; found = Ok (link_of (record_at l k)) })
  ended : (k : ℕ) → FirstUnused l k → ((j : ℕ) → LiveMatch l w j → ⊥)
      → Settled l w (record { read = k + 1; found = Err Missing.EndMark })
  exhausted : ((j : ℕ) → j < records l → is_end_mark (record_at l j) ≡ false) → ((j : ℕ) → LiveMatch l w j → ⊥)
      → Settled l w (record { read = records l; found = Err Missing.MemoryEnd })

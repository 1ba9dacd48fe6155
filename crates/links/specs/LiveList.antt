-- The live records in order, and what a search finds among them ("Link memory").
use Rattle.std.specs.Prelude.{ℕ, zero, suc, ◌+◌, ◌<◌, ◌≡◌, true, false, List, [], ◌∷◌, map, ◌↔◌, length, get_or, Option, Some, Result, Ok, is_ok}
use Rattle.basis.specs.Choice.{choose}
use Rattle.wire.specs.declared.address.Address.{Address}
use Rattle.links.specs.declared.memory.Link.{Link}
use Rattle.links.specs.declared.search.Wanted.{Wanted}
use Rattle.links.specs.declared.search.Missing.{Missing}
use Rattle.links.specs.Record.{records, record_at, link_of, is_in_use, is_end_mark, bears}
use Rattle.links.specs.Live.{Live, Linked}
use Rattle.links.specs.Search.{answers, search_of}

-- of the n records from place k on, by what stands at each place: those in use, up to the first end mark; without one, up to the end
unfoldable pub live_from : (ℕ → List ℕ) → ℕ → ℕ → List (List ℕ)
live_from at zero k = []
live_from at (suc n) k =
    let later : List (List ℕ) = live_from at n (k + 1) in
    choose (is_end_mark (at k)) [] (choose (is_in_use (at k)) (at k ∷ later) later)

-- of n records
abbrev pub live_list_of : ℕ → (ℕ → List ℕ) → List (List ℕ)
live_list_of n at = live_from at n 0

-- of a link memory
abbrev pub live_list : List ℕ → List (List ℕ)
live_list l = live_list_of (records l) (record_at l)

-- k is one of these places
pub record Among (k : ℕ) (places : List ℕ) : Type 0 where
  pub at : ℕ
  pub inside : at < length places
  pub is : get_or places at 0 ≡ k

-- the records at the live places, in rising order, each once
pub record InOrder (l : List ℕ) : Type 0 where
  pub places : List ℕ
  pub rising : (i : ℕ) → i + 1 < length places → get_or places i 0 < get_or places (i + 1) 0
  pub live : (k : ℕ) → Live l k ↔ Among k places
  pub listed : live_list l ≡ map (record_at l) places

abbrev pub ListsLive : Type 0
ListsLive = (l : List ℕ) → InOrder l

-- record i of these is the first that is looked for
pub record FirstWanted (w : Wanted) (rs : List (List ℕ)) (i : ℕ) : Type 0 where
  pub inside : i < length rs
  pub wanted : answers w (get_or rs i []) ≡ true
  pub before : (j : ℕ) → j < i → answers w (get_or rs j []) ≡ false

-- none of them is
abbrev pub NoneWanted : Wanted → List (List ℕ) → Type 0
NoneWanted w rs = (j : ℕ) → j < length rs → answers w (get_or rs j []) ≡ false

-- the first live record that is looked for is found, and no match exactly where there is none
pub record FindsFirst (l : List ℕ) (w : Wanted) : Type 0 where
  pub first_found : (i : ℕ) → FirstWanted w (live_list l) i → (search_of l (Some w)).found ≡ Ok (link_of (get_or (live_list l) i []))
  pub none_found : is_ok (search_of l (Some w)).found ≡ false ↔ NoneWanted w (live_list l)

abbrev pub SearchesFindFirst : Type 0
SearchesFindFirst = (l : List ℕ) (w : Wanted) → FindsFirst l w

-- a match in both, of one link, or in neither
pub data SameFound : Result Link Missing → Result Link Missing → Type 0 where
  in_both : (link : Link) → SameFound (Ok link) (Ok link)
  in-neither : (f g : Result Link Missing) → is_ok f ≡ false → is_ok g ≡ false → SameFound f g

-- what is found, the count aside, goes by the live records alone
abbrev pub FoundByList : Type 0
FoundByList = (l m : List ℕ) (w : Option Wanted) → live_list l ≡ live_list m → SameFound (search_of l w).found (search_of m w).found

-- one of these records bears the address
pub record SomeBears (rs : List (List ℕ)) (a : Address) : Type 0 where
  pub at : ℕ
  pub inside : at < length rs
  pub its : bears (get_or rs at []) a ≡ true

abbrev pub LinkedByList : Type 0
LinkedByList = (l : List ℕ) (a : Address) → Linked l a ↔ SomeBears (live_list l) a

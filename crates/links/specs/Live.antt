-- Who is linked, by the places of records ("Link memory").
use Rattle.std.specs.Prelude.{ℕ, ◌<◌, ◌≡◌, true, false, List}
use Rattle.wire.specs.declared.address.Address.{Address}
use Rattle.links.specs.Record.{records, record_at, is_in_use, is_end_mark, bears}

-- of n records, by what stands at each place

-- record k is the first never-used one
pub record FirstUnusedOf (n : ℕ) (at : ℕ → List ℕ) (k : ℕ) : Type 0 where
  pub inside : k < n
  pub unused : is_end_mark (at k) ≡ true
  pub before : (j : ℕ) → j < k → is_end_mark (at j) ≡ false

-- record k is live: bits 7 and 1 are set, and no record before it is an end mark
pub record LiveOf (n : ℕ) (at : ℕ → List ℕ) (k : ℕ) : Type 0 where
  pub inside : k < n
  pub used : is_in_use (at k) ≡ true
  pub unmarked : is_end_mark (at k) ≡ false
  pub before : (j : ℕ) → j < k → is_end_mark (at j) ≡ false

-- some live record, controller or responder, bears the address
pub record LinkedOf (n : ℕ) (at : ℕ → List ℕ) (a : Address) : Type 0 where
  pub place : ℕ
  pub live : LiveOf n at place
  pub its : bears (at place) a ≡ true

-- of a link memory

abbrev pub FirstUnused : List ℕ → ℕ → Type 0
FirstUnused l = FirstUnusedOf (records l) (record_at l)

abbrev pub Live : List ℕ → ℕ → Type 0
Live l = LiveOf (records l) (record_at l)

abbrev pub Linked : List ℕ → Address → Type 0
Linked l = LinkedOf (records l) (record_at l)

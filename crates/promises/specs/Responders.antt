-- Which record decides for a group ("Groups"), by the places of records.
use Rattle.std.specs.Prelude.{ℕ, ◌<◌, ◌≡◌, true, List}
use Rattle.wire.specs.declared.address.Address.{Address}
use Rattle.links.specs.Record.{record_at, link_of, is_responder, bears}
use Rattle.links.specs.Live.{Live}

-- record k is live, bears the address a, is a responder, and its group is g
pub record Responder (l : List ℕ) (a : Address) (g k : ℕ) : Type 0 where
  pub live : Live l k
  pub its : bears (record_at l k) a ≡ true
  pub responds : is_responder (record_at l k) ≡ true
  pub in_group : (link_of (record_at l k)).group ≡ g

-- the first of them decides
pub record FirstResponder (l : List ℕ) (a : Address) (g k : ℕ) : Type 0 where
  pub responder : Responder l a g k
  pub first : (j : ℕ) → j < k → ¬ Responder l a g j

abbrev pub NoResponder : List ℕ → Address → ℕ → Type 0
NoResponder l a g = (k : ℕ) → ¬ Responder l a g k

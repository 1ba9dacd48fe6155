-- Demand 3's last sentence with one room, lent through the whole sequence ("The program").
use Rattle.std.specs.Prelude.{ℕ, ◌≡◌, List, [], ◌∷◌}
use Rattle.wire.specs.Bytes.{from_of}
use Rattle.links.specs.Live.{Linked}
use Rattle.device.specs.Run.{State, Said, left_by, said_of, lent_call, lent_of, lent_end}
use Rattle.promises.specs.Demand3.{Stranger}

-- messages from a state, what is left of them without those of strangers, and what the whole sequence gives to those left
pub data StruckLent : State → List ℕ → List (List ℕ) → List (List ℕ) → List Said → Type 0 where
  none : {s : State} {room : List ℕ} → StruckLent s room [] [] []
  keep : {s : State} {room message : List ℕ} {more kept : List (List ℕ)} {said : List Said}
      → Linked s.links (from_of message)
      → StruckLent (left_by (lent_call s room message)) (lent_call s room message).room more kept said
      → StruckLent s room (message ∷ more) (message ∷ kept) (said_of (lent_call s room message) ∷ said)
  strike : {s : State} {room message : List ℕ} {more kept : List (List ℕ)} {said : List Said}
      → Stranger s.links message
      → StruckLent (left_by (lent_call s room message)) (lent_call s room message).room more kept said
      → StruckLent s room (message ∷ more) kept said

-- from every state every sequence can be so struck
pub record StrikesLent (s : State) (room : List ℕ) (messages : List (List ℕ)) : Type 0 where
  pub kept : List (List ℕ)
  pub said : List Said
  pub struck : StruckLent s room messages kept said

abbrev pub AlwaysStrikesLent : Type 0
AlwaysStrikesLent = (s : State) (room : List ℕ) (messages : List (List ℕ)) → StrikesLent s room messages

-- and those left, alone, with the room as it was at the start, come to the same, one by one and at the end
abbrev pub UnmissedLent : Type 0
UnmissedLent =
    (s : State) (room : List ℕ) (messages kept : List (List ℕ)) (said : List Said) → StruckLent s room messages kept said →
    (lent_of s room kept ≡ said) × (lent_end s room kept ≡ lent_end s room messages)

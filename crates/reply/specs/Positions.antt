-- Which records Get Database sends, by the places of records ("Direct commands, extended").
use Rattle.std.specs.Prelude.{ℕ, ◌+◌, ◌≤◌, ◌<◌, ◌≡◌, true, false, List, ◌⊎◌}
use Rattle.links.specs.Record.{records, record_at, is_end_mark}

-- why n records from k on are all: so many were asked for, the last is an end mark, or the memory ends there
pub data Ending (l : List ℕ) (k count n : ℕ) : Type 0 where
  asked : n ≡ count → Ending l k count n
  marked : (j : ℕ) → j + 1 ≡ n → is_end_mark (record_at l (k + j)) ≡ true → Ending l k count n
  memory-end : k + n ≡ records l → Ending l k count n

-- n records are sent upward from k, where count are asked for, 00 for no limit
pub record SentFrom (l : List ℕ) (k count n : ℕ) : Type 0 where
  pub some : 1 ≤ n
  pub few : (count ≡ 0) ⊎ (n ≤ count)
  pub inside : k + n ≤ records l
  pub unmarked : (j : ℕ) → j + 1 < n → is_end_mark (record_at l (k + j)) ≡ false
  pub ending : Ending l k count n

-- The number of records read ("Link memory"), by the message's bytes and the places of records.
use Rattle.std.specs.Prelude.{ℕ, ◌+◌, ◌<◌, ◌≡◌, true, false, List, ◌↔◌}
use Rattle.wire.specs.Bytes.{from_of, to_of, command2_of}
use Rattle.wire.specs.Kinds.{is_direct, is_cleanup, is_broadcast}
use Rattle.links.specs.Record.{records, record_at, is_end_mark, bears}
use Rattle.links.specs.Live.{FirstUnused, Live}
use Rattle.module.specs.declared.state.Module.{Module}
use Rattle.device.specs.Step.{step_of}
use Rattle.promises.specs.Demand3.{ping_or_id}
use Rattle.promises.specs.Responders.{Responder}
use Rattle.wire.specs.Asked.{GroupCommand1}
use Rattle.promises.specs.Groups.{ToGroup}
use Rattle.promises.specs.Numbers.{When2, When1, When3, When4}

-- record k settles the search: a live record of the sender; for a group a live responder record of sender and group
pub data Sought (l s : List ℕ) (k : ℕ) : Type 0 where
  of-sender : is_direct s ≡ true → Live l k → bears (record_at l k) (from_of s) ≡ true → Sought l s k
  of-cleanup : is_cleanup s ≡ true → Responder l (from_of s) (command2_of s) k → Sought l s k
  of-broadcast : is_broadcast s ≡ true → Responder l (from_of s) (to_of s).low k → Sought l s k

-- ping, ID request and results 1 to 4 make none; nor does a broadcast with unfit To or Command 1
pub data NoSearch (m : Module) (l s : List ℕ) : Type 0 where
  ping-or-id : is_direct s ≡ true → ping_or_id s ≡ true → NoSearch m l s
  result-1 : When1 s → NoSearch m l s
  result-2 : When2 l → NoSearch m l s
  result-3 : When3 m s → NoSearch m l s
  result-4 : When4 s → NoSearch m l s
  unfit-to : is_broadcast s ≡ true → ¬ ToGroup s → NoSearch m l s
  unfit-command : is_broadcast s ≡ true → ¬ GroupCommand1 s → NoSearch m l s

-- it stops at the first record that settles it: a matching live record or the end mark, that one counted; otherwise all records
-- are counted; it is 0 where no search was made
pub data Reads (m : Module) (l s : List ℕ) : ℕ → Type 0 where
  none : NoSearch m l s → Reads m l s 0
  matching : ¬ NoSearch m l s → (k : ℕ) → Sought l s k → ((j : ℕ) → j < k → ¬ Sought l s j) → Reads m l s (k + 1)
  end_mark : ¬ NoSearch m l s → (k : ℕ) → FirstUnused l k → ((j : ℕ) → ¬ Sought l s j) → Reads m l s (k + 1)
  all : ¬ NoSearch m l s → ((j : ℕ) → j < records l → is_end_mark (record_at l j) ≡ false) → ((j : ℕ) → ¬ Sought l s j)
      → Reads m l s (records l)

-- with every result, whatever the room
abbrev pub RecordsRead : Type 0
RecordsRead = (m : Module) (l s room : List ℕ) (n : ℕ) → ((step_of m l s room).read ≡ n) ↔ Reads m l s n

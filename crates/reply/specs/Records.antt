-- The records that Get Database sends ("Direct commands, extended").
use Rattle.std.specs.Prelude.{ℕ, zero, suc, ◌+◌, ◌-◌, ◌/◌, ◌%◌, min, List, [], ◌∷◌, ◌++◌, eqb}
use Rattle.basis.specs.Choice.{choose}
use Rattle.wire.specs.declared.address.Address.{Address}
use Rattle.links.specs.Record.{records, record_at}
use Rattle.links.specs.Mark.{up_to_mark}
use Rattle.links.specs.Name.{name_of}
use Rattle.reply.specs.Message.{extended}

-- one record: Data 1 as sent, 01, address, 00, the 8 bytes, 00
abbrev pub record_data : ℕ → List ℕ → ℕ → List ℕ
record_data data1 l k = data1 ∷ 0x01 ∷ name_of k / 256 ∷ name_of k % 256 ∷ 0x00 ∷ (record_at l k ++ (0x00 ∷ []))

abbrev pub record_message : Address → Address → ℕ → ℕ → List ℕ → ℕ → List ℕ
record_message own to hops data1 l k = extended own to hops 0x2f (record_data data1 l k)

-- n records upward from k
unfoldable pub records_from : Address → Address → ℕ → ℕ → List ℕ → ℕ → ℕ → List ℕ
records_from own to hops data1 l zero k = []
records_from own to hops data1 l (suc n) k = record_message own to hops data1 l k ++ records_from own to hops data1 l n (k + 1)

-- as many as count says, 00 for no limit, and none behind the memory's end
abbrev pub limit : List ℕ → ℕ → ℕ → ℕ
limit l k count = min (records l - k) (choose (eqb count 0) (records l) count)

-- how many are sent from record k on: those up to an end mark, with it
abbrev pub count_sent : List ℕ → ℕ → ℕ → ℕ
count_sent l k count = up_to_mark l (limit l k count) k

-- their messages
abbrev pub sent_records : Address → Address → ℕ → ℕ → List ℕ → ℕ → ℕ → List ℕ
sent_records own to hops data1 l k count = records_from own to hops data1 l (count_sent l k count) k

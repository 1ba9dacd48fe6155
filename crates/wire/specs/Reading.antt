-- What a message is read into: results 1, 3 and 4, in this order, or its kind ("Result numbers").
use Rattle.std.specs.Prelude.{ℕ, ◌≡◌, Bool, ◌&&◌, not, List, replicate, Result, Ok, Err}
use Rattle.basis.specs.Choice.{choose}
use Rattle.wire.specs.declared.address.Address.{Address}
use Rattle.wire.specs.declared.kind.MessageKind.{MessageKind}
use Rattle.wire.specs.declared.kind.Unread.{Unread}
use Rattle.wire.specs.declared.kind.Message.{Message}
use Rattle.wire.specs.Bytes.{named_in, is_whole, data_of}
use Rattle.wire.specs.Kinds.{is_foreign, kind_of}
use Rattle.wire.specs.Checksum.{is_sum_wrong}

-- 1, 3 and 4 do not apply
abbrev pub well_formed : List ℕ → Address → Bool
well_formed s own = is_whole s && not (is_foreign s own) && not (is_sum_wrong s)

-- a reading with no data bytes beside it
abbrev pub bare : Address → Result MessageKind Unread → Message
bare to r = record { to = to; reading = r; «data» = replicate 14 0 }

unfoldable pub read_of : List ℕ → Address → Message
read_of s own =
    choose (is_whole s)
    (choose (is_foreign s own) (bare (named_in s) (Ok MessageKind.Foreign))
    (choose (is_sum_wrong s) (bare (named_in s) (Err Unread.BadSum))
    (record { to = named_in s; reading = Ok (kind_of s); «data» = data_of s })))
    (bare (named_in s) (Err Unread.BadLength))

-- as whoever it is for reads it: what every seat of a class is offered
abbrev pub heard_in : List ℕ → Message
heard_in s = read_of s (named_in s)

-- the number of the refusal that applies first, and 0 where none does
abbrev pub refusal_of : List ℕ → Address → ℕ
refusal_of s own = choose (is_whole s) (choose (is_foreign s own) 3 (choose (is_sum_wrong s) 4 0)) 1

-- the paper's number of each case that a message is read into: 0 where it is no refusal
abbrev pub kind_number : MessageKind → ℕ
kind_number (MessageKind.Direct r command) = 0
kind_number (MessageKind.Cleanup r command) = 0
kind_number (MessageKind.Broadcast from to command) = 0
kind_number MessageKind.Foreign = 3

abbrev pub reading_number : Result MessageKind Unread → ℕ
reading_number (Ok kind) = kind_number kind
reading_number (Err Unread.BadLength) = 1
reading_number (Err Unread.BadSum) = 4

pub record ReadPromise (s : List ℕ) (own : Address) (r : Message) : Type 0 where
  pub message : r ≡ read_of s own
  pub number : reading_number r.reading ≡ refusal_of s own

-- One message of a reply ("Message bytes").
use Rattle.std.specs.Prelude.{ℕ, ◌+◌, ◌*◌, ◌%◌, List, [], ◌∷◌, ◌++◌}
use Rattle.basis.specs.Spell.{spell}
use Rattle.wire.specs.declared.address.Address.{Address}
use Rattle.wire.specs.declared.request.Request.{Request}
use Rattle.reply.specs.declared.due.ReplyType.{ReplyType}
use Rattle.reply.specs.declared.due.Head.{Head}

-- the type bits and the extended bit
abbrev pub type_bits : ReplyType → ℕ
type_bits ReplyType.Ack = 0x20
type_bits ReplyType.Nak = 0xa0
type_bits ReplyType.CleanupAck = 0x60
type_bits ReplyType.CleanupNak = 0xe0
type_bits ReplyType.IdBroadcast = 0x80
type_bits ReplyType.Data = 0x10

-- fresh hops: the request's largest hop count both as hops left, bits 3 and 2, and as largest, bits 1 and 0
abbrev pub reply_flags : ReplyType → ℕ → ℕ
reply_flags type hops = type_bits type + 5 * (hops % 4)

-- From (3), To (3), flags, Command 1, Command 2
abbrev pub standard : Address → Address → ReplyType → ℕ → ℕ → ℕ → List ℕ
standard from to type hops command1 command2 =
    from.high ∷ from.middle ∷ from.low ∷ to.high ∷ to.middle ∷ to.low ∷ reply_flags type hops ∷ command1 ∷ command2 ∷ []

-- extended data: Command 2 is 00, then Data 1 to Data 14
abbrev pub extended : Address → Address → ℕ → ℕ → List ℕ → List ℕ
extended from to hops command1 bytes = standard from to ReplyType.Data hops command1 0x00 ++ bytes

abbrev pub head_of : Address → Head → List ℕ
head_of own h = standard own h.to h.reply_type h.hops h.command1 h.command2

-- a standard reply to a request
abbrev pub headed : ReplyType → Request → ℕ → ℕ → Head
headed type r command1 command2 = record { reply_type = type; to = r.from; hops = r.hops; command1 = command1; command2 = command2 }

-- the head of extended data to the same controller
abbrev pub data_head : ℕ → Head → Head
data_head command1 h = record { reply_type = ReplyType.Data; to = h.to; hops = h.hops; command1 = command1; command2 = 0x00 }

-- the fourteen data bytes, as they are sent
abbrev pub data_bytes : List ℕ → List ℕ
data_bytes d = spell 14 0 d

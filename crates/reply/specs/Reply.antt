-- Whole replies, each message directly after the one before it.
use Rattle.std.specs.Prelude.{ℕ, List, [], ◌++◌}
use Rattle.wire.specs.declared.address.Address.{Address}
use Rattle.reply.specs.declared.due.ReplyType.{ReplyType}
use Rattle.reply.specs.declared.due.Due.{Due}
use Rattle.reply.specs.Message.{standard, extended, head_of, data_bytes}
use Rattle.reply.specs.Records.{sent_records}

-- what the module at address `own`, with link memory l, sends
abbrev pub reply_of : Address → List ℕ → Due → List ℕ
reply_of own l Due.Nothing = []
reply_of own l (Due.Alone h) = head_of own h
reply_of own l (Due.WithId h id revision) = head_of own h ++ standard own id ReplyType.IdBroadcast h.hops 0x01 revision
reply_of own l (Due.WithProperties h d) = head_of own h ++ extended own h.to h.hops 0x2e (data_bytes d)
reply_of own l (Due.WithRecords h a) = head_of own h ++ sent_records own h.to h.hops a.data1 l a.first a.most

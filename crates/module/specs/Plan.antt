-- What comes of a message, before the reply room is looked at ("Result numbers").
use Rattle.std.specs.Prelude.{Some, None}
use Rattle.wire.specs.declared.address.Address.{Address}
use Rattle.wire.specs.declared.request.Request.{Request}
use Rattle.reply.specs.declared.due.ReplyType.{ReplyType}
use Rattle.reply.specs.declared.due.Head.{Head}
use Rattle.reply.specs.declared.due.Due.{Due}
use Rattle.reply.specs.Message.{headed}
use Rattle.results.specs.declared.Outcome.{Outcome}
use Rattle.module.specs.declared.state.Identity.{Identity}
use Rattle.module.specs.declared.state.Module.{Module}
use Rattle.module.specs.declared.change.Change.{Change}
use Rattle.module.specs.declared.deed.Ack.{Ack}
use Rattle.module.specs.declared.deed.Write.{Write}
use Rattle.module.specs.declared.deed.Deed.{Deed}
use Rattle.module.specs.declared.plan.Plan.{Plan}

-- carried out
abbrev pub done : Change → Due → Plan
done change due = record { outcome = Outcome.Done; change = change; writing = None; due = due }

-- carried out: bytes go over the first ones of a record, and the delta goes up
abbrev pub wrote : Write → Due → Plan
wrote write due = record { outcome = Outcome.Done; change = Change.NextDelta; writing = Some write; due = due }

-- refused: nothing changes, and nothing is written
abbrev pub refused : Outcome → Due → Plan
refused outcome due = record { outcome = outcome; change = Change.Nothing; writing = None; due = due }

-- result 6: a NAK that repeats Command 1, with Command 2 = FF
abbrev pub unlinked : ReplyType → Request → Plan
unlinked type r = refused Outcome.NotLinked (Due.Alone (headed type r r.command1 0xff))

-- result 7: the same with Command 2 = FB
abbrev pub unlisted : ReplyType → Request → Plan
unlisted type r = refused Outcome.Unlisted (Due.Alone (headed type r r.command1 0xfb))

-- category, subcategory and firmware, in the place of an address
abbrev pub id_of : Identity → Address
id_of i = record { high = i.category; middle = i.subcategory; low = i.firmware }

-- the ACK repeats both commands unless stated
abbrev pub ack_to : Request → Head
ack_to r = headed ReplyType.Ack r r.command1 r.command2

abbrev pub due_of : Module → Request → Ack → Due
due_of m r Ack.Repeated = Due.Alone (ack_to r)
due_of m r (Ack.Telling command2) = Due.Alone (headed ReplyType.Ack r r.command1 command2)
due_of m r (Ack.AfterDelta command2) = Due.Alone (headed ReplyType.Ack r m.delta command2)
due_of m r Ack.WithId = Due.WithId (ack_to r) (id_of m.identity) m.identity.revision
due_of m r (Ack.WithProperties d) = Due.WithProperties (ack_to r) d
due_of m r (Ack.WithRecords asked) = Due.WithRecords (ack_to r) asked

-- what a direct command comes to, as a plan
abbrev pub deed_plan : Module → Request → Deed → Plan
deed_plan m r (Deed.Done change ack) = done change (due_of m r ack)
deed_plan m r (Deed.Written write) = wrote write (Due.Alone (ack_to r))
deed_plan m r Deed.Unlisted = unlisted ReplyType.Nak r

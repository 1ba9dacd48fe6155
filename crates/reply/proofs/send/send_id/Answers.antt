use mathlib.Core.Path.{refl}
use mathlib.Core.List.{◌++◌}
use native.Mathlib.Omega.{arith}
use Rattle.basis.proofs.Laid.{behind}
use Rattle.reply.specs.declared.due.ReplyType.{ReplyType}
use Rattle.reply.specs.Message.{standard, head_of}
use Rattle.reply.proofs.Measured.{short, whole}
use Rattle.reply.proofs.send.send_id.Goals as goal

pub returns-then-room-lt18 : goal.returns-then-room-lt18
returns-then-room-lt18 c =
    let g = c.args in
    short (head_of g.own g.head ++ standard g.own g.id ReplyType.IdBroadcast g.head.hops 0x01 g.revision) g.room.now c.if-room-lt18.true

pub returns : goal.returns
returns c =
    let g = c.args in
    let room = g.room.now in
    let h = head_of g.own g.head in
    let more = standard g.own g.id ReplyType.IdBroadcast g.head.hops 0x01 g.revision in
    let first = rw c.message.ensures at c.lay.ensures in
    let second = rw c.message-2.ensures at c.lay-2.ensures in
    whole (h ++ more) room 18 _ (omega arith) refl (behind room _ _ h more (omega arith) first second)

use mathlib.Core.Path.{refl, ◌∙◌}
use native.Mathlib.Omega.{arith}
use Rattle.basis.proofs.Laid.{fits}
use Rattle.reply.specs.Message.{head_of}
use Rattle.reply.proofs.Measured.{short, whole}
use Rattle.reply.proofs.send.send_head.Goals as goal

pub returns-then-room-lt9 : goal.returns-then-room-lt9
returns-then-room-lt9 c =
    let g = c.args in
    short (head_of g.own g.head) g.room.now c.if-room-lt9.true

pub returns : goal.returns
returns c =
    let g = c.args in
    let h = head_of g.own g.head in
    whole h g.room.now 9 _ (omega arith) refl (rw c.message.ensures at c.lay.ensures ∙ fits g.room.now h (omega arith))

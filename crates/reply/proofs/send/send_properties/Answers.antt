use Prim.Native.Nat.{◌-◌}
use mathlib.Core.Path.{◌≡◌, refl, sym, ◌∙◌, ap, subst}
use Prim.Native.Nat.{ℕ}
use mathlib.Core.List.{List, ◌++◌}
use native.Mathlib.Omega.{arith}
use lib.ListN.{length}
use borrow.Rule.Slice.PartMut.{mid_of}
use Rattle.basis.specs.Laid.{laid_if_fits}
use Rattle.basis.proofs.Laid.{behind}
use Rattle.basis.proofs.Spelled.{spelled}
use Rattle.reply.specs.Message.{extended, data_head, head_of, data_bytes}
use Rattle.reply.proofs.Measured.{short, whole}
use Rattle.reply.proofs.send.send_properties.Goals as goal

pub returns-then-room-lt32 : goal.returns-then-room-lt32
returns-then-room-lt32 c =
    let g = c.args in
    short (head_of g.own g.head ++ extended g.own g.head.to g.head.hops 0x2e (data_bytes g.data)) g.room.now c.if-room-lt32.true

pub returns : goal.returns
returns c =
    let g = c.args in
    let room = g.room.now in
    let xs = c.lay.new.room in
    let h = head_of g.own g.head in
    let more = extended g.own g.head.to g.head.hops 0x2e (data_bytes g.data) in
    let first = rw c.message.ensures at c.lay.ensures in
    let head = c.message-properties.ensures ∙ ap (head_of g.own) c.of_data.ensures in
    let second =
    subst (λ (d : List ℕ). c.put_extended.new.room ≡ laid_if_fits (mid_of 9 (length xs - 9) xs) (head_of g.own (data_head 0x2e g.head) ++ d))
    (sym (spelled 14 g.data (omega arith)))
    (rw head at c.put_extended.ensures) in
    whole (h ++ more) room 32 _ (omega arith) refl (behind room _ _ h more (omega arith) first second)

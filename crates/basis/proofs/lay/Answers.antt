use Rattle.std.proofs.Common.{◌≡◌, length, arith, take_all, sym, ◌∙◌}
use Rattle.basis.proofs.Laid.{fits, left, copied}
use Rattle.basis.proofs.lay.Goals as goal

pub returns-then-room-bytes : goal.returns-then-room-bytes
returns-then-room-bytes c = left _ _ c.if-room-bytes.true

pub loop-i-preserved : goal.loop-i-preserved
loop-i-preserved c =
    let g = c.args in
    rw c.loop-i.invariant (copied g.room.now g.bytes.now c.loop-i.i (omega (arith, c.loop-i-test.true, c.if-room-bytes.false)) c.loop-i-test.true)

pub returns : goal.returns
returns c =
    let b = c.args.bytes.now in
    let all : c.loop-i.i ≡ length b = omega (arith, c.loop-i.auto.i-end, c.loop-i-test.false) in
    c.loop-i.invariant ∙ rw (all, take_all (length b) b (omega arith)) (sym (fits c.args.room.now b c.if-room-bytes.false))

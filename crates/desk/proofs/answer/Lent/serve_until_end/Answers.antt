use Rattle.std.proofs.Common.{arith}
use Rattle.desk.proofs.Held.{in_hand}
use Rattle.desk.proofs.answer.Lent.serve_until_end.Goals as goal

pub serve_one_read-p-requires : goal.serve_one_read-p-requires
serve_one_read-p-requires _ c =
    let at = c.loop.invariant in
    omega (arith, c.requires, at.same_held, in_hand at.read c.if-not-p.false)

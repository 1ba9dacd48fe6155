-- The bytes that a write names are lent from among the data bytes.
use mathlib.Core.Path.{sym}
use native.Mathlib.Omega.{arith}
use lib.ListN.{take, drop, length-take, length-drop}
use Rattle.links.proofs.Written.{too_many}
use Rattle.device.proofs.step.write_planned.Goals as goal

pub returns-else-n-le8 : goal.returns-else-n-le8
returns-else-n-le8 c =
    let r = c.in-Some in
    let w = r.planned in
    let d = c.args.data in
    rw r.is (sym (too_many c.args.links.now w.index (take w.count (drop 5 d)) (simp (length-take, length-drop) (omega arith))))

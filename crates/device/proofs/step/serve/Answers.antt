-- What was decided is finished by what sending the reply came to.
use Rattle.device.proofs.Finished.{finished}
use Rattle.device.proofs.step.serve.Goals as goal

-- What was decided is finished by what sending the reply came to.

pub returns : goal.returns
returns c =
    let g = c.args in
    rw c.unwrap_or.ensures
    (finished g.m g.links.now g.heard g.room.now c.ruling_by-ruling.result c.ruling_by-ruling.ensures c.send-sent.result _ c.send-sent.ensures
    c.if_sent-plan.result c.if_sent-plan.ensures _ c.apply.ensures _ c.write_planned.ensures)

-- The seat's share is lent, and put back as the step left it.
use Rattle.class.proofs.Shared.{put_back}
use Rattle.class.proofs.turn.step_in.Goals as goal

-- The seat's share is lent, and put back as the step left it.

pub returns : goal.returns
returns c =
    let g = c.args in
    put_back g.m g.t g.heard g.links.now g.room.now c.serve.result _ _ c.serve.ensures

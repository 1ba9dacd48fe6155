use Prim.Native.Nat.{ℕ, ◌≤◌}
use mathlib.Core.Path.{sym, subst}
use native.Mathlib.Omega.{arith}
use Rattle.device.proofs.Counted.{most_read}
use Rattle.class.specs.Seat.{share_at}
use Rattle.class.proofs.turn.turn.Goals as goal

-- a step reads no more records than a share has

pub offered-requires : goal.offered-requires
offered-requires c =
    let g = c.args in
    let few : c.step_in-in-All.result.read ≤ 256 =
    subst (λ (n : ℕ). n ≤ 256) (sym c.step_in-in-All.ensures.read) (most_read g.m (share_at g.t.task.share g.t.seat g.links.now) g.heard g.room.now) in
    (omega (arith, c.requires.inside, c.requires.few), c.requires.counted, few)

-- At every turn the frames before `used` are served, and the next one is looked for behind them.
use Rattle.std.proofs.Common.{◌-◌, ◌≤◌, length, drop}
use Rattle.desk.specs.Passed.{Passed}
use Rattle.desk.proofs.answer.Lent.serve_arrived.Given as goal

abbrev pub invariant-loop-desk : goal.invariant-loop-desk
invariant-loop-desk _ l =
    let lent = l.initial.self in
    record {
      inside : l.used ≤ length l.arrived;
      passed : Passed l.initial.desk lent.links.now lent.room.now l.arrived l.desk l.self.links.now (drop l.used l.arrived);
    }

abbrev pub decreases-loop-desk : goal.decreases-loop-desk
decreases-loop-desk _ l = length l.arrived - l.used

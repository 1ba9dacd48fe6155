use Rattle.std.proofs.Common.{◌≡◌, ◌+◌, ◌-◌, ◌*◌, ◌<◌, length, sym, arith, ◌∙◌}
use Rattle.desk.proofs.Ahead.{lies}
use Rattle.desk.proofs.Passed.{no_more, one_more}
use Rattle.desk.proofs.answer.Lent.serve_arrived.Goals as goal

pub returns-in-Waiting : goal.returns-in-Waiting
returns-in-Waiting _ c = no_more c.loop-desk.invariant.passed c.loop-desk.invariant.inside c.in-Waiting.ensures

pub loop-desk-preserved : goal.loop-desk-preserved
loop-desk-preserved _ c =
    let at = c.loop-desk in
    let frame = c.in-Whole in
    let one-frame : frame.k + frame.n - frame.k ≡ frame.n = omega arith in
    let ample : 2 * length at.self.room.now < length at.self.out.now = omega (arith, at.self.room_size, at.self.fits) in
    let told = rw one-frame at (c.answer-left.ensures.served ample) in
    record {
      inside = omega (arith, lies at.used c.args.arrived.now _ _ frame.ensures at.invariant.inside);
      passed =
          one_more at.invariant.passed at.invariant.inside at.self.room.now
          (at.self.room_size ∙ sym c.args.self.now.room_size) frame.ensures (record { state = told.state; tally = told.tally });
    }

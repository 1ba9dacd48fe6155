use Rattle.std.proofs.Common.{refl}
use Rattle.desk.specs.Desk.{open_with}
use Rattle.desk.proofs.Served.{no_turn, frames_lie, reply_stands, told, turn}
use Rattle.desk.proofs.answer.answer.Goals as goal

pub returns-in_default : goal.returns-in_default
returns-in_default c = no_turn (open_with c.args.seating c.args.tally.now) c.in_default.ensures refl

pub tell-requires-clause-prefix_len : goal.tell-requires-clause-prefix_len
tell-requires-clause-prefix_len c = frames_lie (open_with c.args.seating c.args.tally.now) c.in-Some.ensures

pub tell-requires-clause-prefix_len_2 : goal.tell-requires-clause-prefix_len_2
tell-requires-clause-prefix_len_2 c = reply_stands (open_with c.args.seating c.args.tally.now) c.in-Some.ensures

pub tell-requires-clause-handed : goal.tell-requires-clause-handed
tell-requires-clause-handed c = told (open_with c.args.seating c.args.tally.now) c.in-Some.ensures

pub returns : goal.returns
returns c = rw c.count_as.ensures (turn (open_with c.args.seating c.args.tally.now) c.in-Some.ensures refl)

use mathlib.Core.Path.{sym, ◌∙◌}
use Rattle.wire.proofs.Head.{there}
use Rattle.wire.proofs.read.whole_head.Goals as goal

pub returns-then-is_whole : goal.returns-then-is_whole
returns-then-is_whole c = there c.args.message.now c.first_chunk.result (sym c.is_whole.ensures ∙ c.if-is_whole.true) c.first_chunk.ensures.cases

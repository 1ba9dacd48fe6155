use native.Mathlib.Omega.{arith}
use borrow.Author.Tests.{eq-eqb, ne_eqb}
use Rattle.basis.specs.Choice.{choose}
use Rattle.reply.proofs.due.Asked.limit.Goals as goal

pub returns-then-self-eq0 : goal.returns-then-self-eq0
unfolding choose
returns-then-self-eq0 c = rw (eq-eqb c.args.self.most 0 c.if-self-eq0.true) (omega arith)

pub returns-else-self-eq0 : goal.returns-else-self-eq0
unfolding choose
returns-else-self-eq0 c = rw (ne_eqb c.args.self.most 0 c.if-self-eq0.false) (omega arith)

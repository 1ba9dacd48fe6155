use Rattle.std.proofs.Common.{◌≡◌, ◌∙◌, rules}
use Rattle.std.specs.List.{sum}
use Rattle.wire.proofs.Added.{added}
use Rattle.wire.proofs.sum.sum_of.Goals as goal

pub returns : goal.returns
returns c =
    let e : c.sum.result ≡ sum c.args.column.now = search rules in
    e ∙ added c.args.column.now

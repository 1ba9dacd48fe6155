-- Where a test fails the call refuses; behind both the image holds a module, and the step is its step.
use mathlib.Core.Path.{◌∙◌}
use borrow.Author.Tests.{lt-leb}
use Rattle.image.proofs.Whole.{unheld, is_held}
use Rattle.embed.proofs.Served.{refused, served}
use Rattle.embed.proofs.call.dreelish_step.Goals as goal

pub returns-in_default : goal.returns-in_default
returns-in_default c =
    let g = c.args in
    refused g.image.now g.links.now g.message.now g.room.now g.report.now (rw (unheld g.image.now _ c.held_in.ensures c.in_default.not-Some))

pub returns-then-report-lt2 : goal.returns-then-report-lt2
returns-then-report-lt2 c =
    let g = c.args in
    let its = is_held g.image.now _ (rw c.in-Some.is at c.held_in.ensures) in
    refused g.image.now g.links.now g.message.now g.room.now g.report.now (rw (its.one, lt-leb 2 _ c.if-report-lt2.true))

pub returns : goal.returns
returns c =
    let g = c.args in
    let its = is_held g.image.now _ (rw c.in-Some.is at c.held_in.ensures) in
    served g.image.now g.links.now g.message.now g.room.now g.report.now its.one c.step-answer.result _ _ (rw its.whose at c.step-answer.ensures)
    _ _ _ c.if-report-lt2.false c.store.ensures c.tell.ensures (c.from-2.ensures ∙ c.from.ensures)

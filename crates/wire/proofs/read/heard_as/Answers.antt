use mathlib.Core.Path.{sym, ◌∙◌}
use lib.ListN.{length}
use borrow.Author.Tests.{lt-ltb, le-ltb}
use Rattle.basis.specs.Choice.{choose}
use Rattle.wire.specs.Kinds.{heard_as}
use Rattle.wire.proofs.Head.{same_unheard, same_kind}
use Rattle.wire.proofs.read.heard_as.Goals as goal

pub returns-in-Some : goal.returns-in-Some
unfolding heard_as choose
returns-in-Some c =
    let s = c.args.message.now in
    let first = c.in-Some.ensures.cases in
    rw (le-ltb (length s) 9 first.enough, sym (same_unheard s _ first.same) ∙ sym c.is_unheard.ensures ∙ c.if-not-is_unheard.true)
    (c.kind_of.ensures ∙ same_kind s _ first.same)

pub returns-in_default : goal.returns-in_default
unfolding heard_as choose
returns-in_default c =
    let s = c.args.message.now in
    let first = c.in-Some.ensures.cases in
    rw (le-ltb (length s) 9 first.enough, sym (same_unheard s _ first.same) ∙ sym c.is_unheard.ensures ∙ c.if-not-is_unheard.false)

pub returns-in_default-2 : goal.returns-in_default-2
unfolding heard_as choose
returns-in_default-2 c = rw (lt-ltb (length c.args.message.now) 9 (rw c.in_default.is at c.first_chunk.ensures.cases))

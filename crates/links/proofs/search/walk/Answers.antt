use Prim.Native.Nat.{pred, ◌-◌, ◌+◌, ◌/◌}
use mathlib.Core.Path.{◌≡◌, sym, ◌∙◌}
use mathlib.Core.Bool.{true, false}
use native.Mathlib.Nat.{sub-zero}
use native.Mathlib.Omega.{arith}
use lib.ListN.{length}
use Rattle.basis.proofs.First.{none, here, later}
use Rattle.links.specs.Record.{record_at, is_end_mark}
use Rattle.links.specs.Search.{matches, settles_at, stop_of}
use Rattle.links.proofs.Stop.{at_memory_end, at_end_mark, at_match}
use Rattle.links.proofs.search.walk.Goals as goal

pub loop-i-init : goal.loop-i-init
unfolding stop_of
loop-i-init c = (omega arith, rw sub-zero)

pub loop-i-preserved : goal.loop-i-preserved
loop-i-preserved c =
    let g = c.args in
    let i = c.loop-i.i in
    let l = g.links.now in
    let q = c.record_at-record.ensures in
    let e : is_end_mark (record_at l i) ≡ false = sym (rw q at c.is_end_mark.ensures) ∙ c.if-is_end_mark.false in
    let f : matches g.wanted (record_at l i) ≡ false = sym (rw q at c.matches.ensures) ∙ c.if-matches.false in
    let unsettled : settles_at l g.wanted i ≡ false = rw (e, f) in
    let p : length l / 8 - (i + 1) ≡ pred (length l / 8 - i) = omega arith in
    (omega arith, rw p (sym (later (settles_at l g.wanted) _ i (omega arith) unsettled) ∙ c.loop-i.invariant.1))

pub returns-after-loop-i : goal.returns-after-loop-i
returns-after-loop-i c =
    let g = c.args in
    let l = g.links.now in
    let i = c.loop-i.i in
    let p : length l / 8 - i ≡ 0 = omega arith in
    let stop : i ≡ stop_of l g.wanted = sym (none (settles_at l g.wanted) i) ∙ rw p at c.loop-i.invariant.1 in
    sym (rw (← stop) (at_memory_end l i (omega arith)))

pub returns-then-is_end_mark : goal.returns-then-is_end_mark
returns-then-is_end_mark c =
    let g = c.args in
    let l = g.links.now in
    let i = c.loop-i.i in
    let e : is_end_mark (record_at l i) ≡ true = sym (rw c.record_at-record.ensures at c.is_end_mark.ensures) ∙ c.if-is_end_mark.true in
    let settled : settles_at l g.wanted i ≡ true = rw e in
    let stop : i ≡ stop_of l g.wanted = sym (here (settles_at l g.wanted) _ i (omega arith) settled) ∙ c.loop-i.invariant.1 in
    sym (rw (← stop) (at_end_mark l i (omega arith) e))

pub returns-then-matches : goal.returns-then-matches
returns-then-matches c =
    let g = c.args in
    let l = g.links.now in
    let i = c.loop-i.i in
    let q = c.record_at-record.ensures in
    let e : is_end_mark (record_at l i) ≡ false = sym (rw q at c.is_end_mark.ensures) ∙ c.if-is_end_mark.false in
    let f : matches g.wanted (record_at l i) ≡ true = sym (rw q at c.matches.ensures) ∙ c.if-matches.true in
    let settled : settles_at l g.wanted i ≡ true = rw (e, f) in
    let stop : i ≡ stop_of l g.wanted = sym (here (settles_at l g.wanted) _ i (omega arith) settled) ∙ c.loop-i.invariant.1 in
    rw (c.link_of-link.ensures, q) (sym (rw (← stop) (at_match l i (omega arith) e)))

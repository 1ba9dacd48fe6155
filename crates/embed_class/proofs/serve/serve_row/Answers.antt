use Rattle.std.proofs.Common.{rules}
use mathlib.Core.Path.{sym, ◌∙◌}
use native.Mathlib.Omega.{arith}
use Rattle.embed_class.proofs.Standing.{next_seat, one_seat}
use Rattle.embed_class.proofs.Started.{begins}
use Rattle.embed_class.proofs.serve.serve_row.Goals as goal

pub loop-seat-init : goal.loop-seat-init
loop-seat-init c = search (rules, begins)

pub returns-then-not-is_for_all : goal.returns-then-not-is_for_all
returns-then-not-is_for_all c =
    one_seat _ _ _ _ _ _ _ _ _ _ _ c.loop-seat.invariant (omega arith) _ _ _ _ _
    (sym c.is_for_all.ensures ∙ c.if-not-is_for_all.true) c.of_seat.ensures c.serve_seat-own.ensures

pub loop-seat-preserved : goal.loop-seat-preserved
loop-seat-preserved c =
    next_seat _ _ _ _ _ _ _ _ _ _ _ c.loop-seat.invariant (omega arith) _ _ _ _ _
    (sym c.is_for_all.ensures ∙ c.if-not-is_for_all.false) c.and_seat-answer.ensures c.serve_seat-own.ensures

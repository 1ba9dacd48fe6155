use Prim.Native.Nat.{ℕ, pred, min, ◌-◌, ◌+◌}
use mathlib.Core.Path.{◌≡◌, sym, ◌∙◌}
use mathlib.Core.Bool.{true, false}
use mathlib.Core.List.{List}
use native.Mathlib.Omega.{arith}
use Rattle.basis.specs.First.{first_from}
use Rattle.basis.proofs.First.{none, here, later}
use Rattle.links.specs.Mark.{mark_at, up_to_mark}
use Rattle.links.proofs.mark.count_to_mark.Goals as goal

-- by where the first end mark stands
stops : (l : List ℕ) (n k i m : ℕ) → first_from (mark_at l) n k ≡ m → i ≡ min n (m + 1 - k) → i ≡ up_to_mark l n k
unfolding up_to_mark
stops l n k i m e p = rw e p

pub loop-i-preserved : goal.loop-i-preserved
loop-i-preserved c =
    let g = c.args in
    let i = c.loop-i.i in
    let l = g.links.now in
    let q = c.record_at-record.ensures in
    let e : mark_at l (g.k + i) ≡ false = sym (rw q at c.is_end_mark.ensures) ∙ c.if-is_end_mark.false in
    let p : g.n - (i + 1) ≡ pred (g.n - i) = omega arith in
    let s : g.k + (i + 1) ≡ g.k + i + 1 = omega arith in
    (omega arith, rw (p, s) (sym (later (mark_at l) (g.n - i) (g.k + i) (omega arith) e) ∙ c.loop-i.invariant.1))

pub returns : goal.returns
returns c =
    let g = c.args in
    let i = c.loop-i.i in
    let l = g.links.now in
    let p : g.n - i ≡ 0 = omega arith in
    let m : g.k + i ≡ first_from (mark_at l) g.n g.k = sym (none (mark_at l) (g.k + i)) ∙ rw p at c.loop-i.invariant.1 in
    stops l g.n g.k g.n (g.k + i) (sym m) (omega arith)

pub returns-then-is_end_mark : goal.returns-then-is_end_mark
returns-then-is_end_mark c =
    let g = c.args in
    let i = c.loop-i.i in
    let l = g.links.now in
    let q = c.record_at-record.ensures in
    let e : mark_at l (g.k + i) ≡ true = sym (rw q at c.is_end_mark.ensures) ∙ c.if-is_end_mark.true in
    let m : g.k + i ≡ first_from (mark_at l) g.n g.k = sym (here (mark_at l) (g.n - i) (g.k + i) (omega arith) e) ∙ c.loop-i.invariant.1 in
    stops l g.n g.k (i + 1) (g.k + i) (sym m) (omega arith)

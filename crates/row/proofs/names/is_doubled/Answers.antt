use Prim.Native.Nat.{ℕ, pred, ◌<◌, ◌-◌, ◌+◌}
use mathlib.Core.Path.{◌≡◌, refl, sym, ◌∙◌, ap}
use mathlib.Core.Logic.{◌≢◌}
use mathlib.Core.Bool.{Bool, true, false}
use mathlib.Core.List.{List}
use native.Mathlib.Omega.{arith}
use lib.Dec.{eqb}
use lib.ListN.{length, get_or, set, length-set}
use lib.Seq.{get_or-set_same, get_or-set_other}
use borrow.Author.Tests.{lt-ltb, le-ltb, eqb-true, eqb-false}
use Rattle.std.specs.Prelude.{is_some}
use Rattle.basis.specs.First.{first, first_from}
use Rattle.basis.proofs.First.{none, here, later}
use Rattle.basis.proofs.Tests.{clash}
use Rattle.wire.specs.declared.address.Address.{Address}
use Rattle.row.specs.Row.{is_taken}
use Rattle.row.specs.Round.{name_in}
use Rattle.row.proofs.Named.{not_taken}
use Rattle.row.proofs.Position.{whether}
use Rattle.row.proofs.names.is_doubled.Invariants.{Marked}
use Rattle.row.proofs.names.is_doubled.Goals as goal
use Rattle.row.proofs.names.is_doubled.Goals.{else-met-low-via-then-met-low+else-is_some, else-met-low-via-else-met-low}

-- one seat further, where seat i is free
further : (P : ℕ → Bool) (n i : ℕ) → i < n → P i ≡ false → first_from P (n - i) i ≡ first P n → first_from P (n - (i + 1)) (i + 1) ≡ first P n
further P n i h free left =
    let p : n - (i + 1) ≡ pred (n - i) = omega (arith, h) in
    rw p (sym (later P (n - i) i (omega (arith, h)) free) ∙ left)

module _ (name : ℕ → Address) (met : List Bool) (i : ℕ) (marked : Marked name met i) (low : ℕ) (own : low ≡ (name i).low) where
  not_met : get_or met low false ≡ false → is_taken name i ≡ false
  not_met e = not_taken name i (λ j h p. clash (marked j h) (rw (← (own ∙ p)) e))

  -- other marks, of which that of seat i is set and the rest are the same
  one_more : (m : List Bool) → get_or m low false ≡ true → ((k : ℕ) → k ≢ low → get_or m k false ≡ get_or met k false) → Marked name m (i + 1)
  one_more m e same j h = go (eqb (name j).low low) refl
    where
      go : (t : Bool) → eqb (name j).low low ≡ t → get_or m (name j).low false ≡ true
      go true q = rw (eqb-true (name j).low low q) e
      go false q =
          let differs = eqb-false (name j).low low q in
          let other : j ≢ i = λ p. differs (ap (λ (k : ℕ). (name k).low) p ∙ sym own) in
          same (name j).low differs ∙ marked j (omega (arith, h, other))

  marks : low < length met → Marked name (set met low true) (i + 1)
  marks inside = one_more (set met low true) (get_or-set_same met low true false inside) (λ k h. get_or-set_other met low k true false h)

pub returns-then-is_some : goal.returns-then-is_some
returns-then-is_some c =
    let l = c.loop-i in
    let names = c.args.names.now in
    let name = name_in names in
    let taken : is_taken name l.i ≡ true = sym (c.is_some.ensures ∙ ap is_some c.seat_named.ensures ∙ whether names _ l.i (omega arith) refl (name l.i)) ∙ c.if-is_some.true in
    let stop : l.i ≡ first (is_taken name) (length names) = sym (here (is_taken name) _ l.i (omega arith) taken) ∙ l.invariant.0 in
    sym (lt-ltb _ (length names) (rw (← stop) (omega arith)))

pub loop-i-preserved : goal.loop-i-preserved
loop-i-preserved c =
    let l = c.loop-i in
    let low = c.from-low in
    let names = c.args.names.now in
    let name = name_in names in
    let n = length names in
    let marked = marks name l.met l.i l.invariant.2 low.result low.ensures (omega arith) in
    elim c.else-met-low.branch [
      | else-met-low-via-then-met-low+else-is_some w ↦
          let free : is_taken name l.i ≡ false = sym (w.is_some.ensures ∙ ap is_some w.seat_named.ensures ∙ whether names _ l.i (omega arith) refl (name l.i)) ∙ w.if-is_some.false in
          (further (is_taken name) n l.i (omega arith) free l.invariant.0, length-set l.met low.result true ∙ l.invariant.1, marked)
      | else-met-low-via-else-met-low w ↦
          let free = not_met name l.met l.i l.invariant.2 low.result low.ensures w.if-met-low.false in
          (further (is_taken name) n l.i (omega arith) free l.invariant.0, length-set l.met low.result true ∙ l.invariant.1, marked)
    ]

pub returns : goal.returns
returns c =
    let names = c.args.names.now in
    let n = length names in
    let i = c.loop-i.i in
    let p : n - i ≡ 0 = omega arith in
    let stop : i ≡ first (is_taken (name_in names)) n = sym (none (is_taken (name_in names)) i) ∙ rw p at c.loop-i.invariant.0 in
    sym (le-ltb _ n (rw (← stop) (omega arith)))

use Prim.Native.Nat.{ℕ, ◌≤◌}
use mathlib.Core.List.{List}
use mathlib.Core.Path.{◌≡◌, refl, sym, ◌∙◌}
use mathlib.Core.Bool.{Bool, false}
use native.Mathlib.Omega.{arith}
use lib.ListN.{length, take}
use borrow.Author.Tests.{lt-ltb}
use Rattle.std.specs.Prelude.{Option, None, Some, position}
use Rattle.basis.specs.Choice.{choose}
use Rattle.wire.specs.Bytes.{equals}
use Rattle.row.specs.declared.progress.Progress.{Progress}
use Rattle.row.specs.declared.progress.Scope.{Scope}
use Rattle.row.specs.declared.progress.Round.{Round}
use Rattle.row.specs.declared.progress.Whom.{Whom}
use Rattle.row.specs.declared.outcome.ClassOutcome.{ClassOutcome}
use Rattle.row.specs.Answer.{silent}
use Rattle.wire.specs.declared.address.Address.{Address}
use Rattle.row.specs.Row.{is_doubled}
use Rattle.row.specs.Round.{name_in, ended, second_round, by_scope, addressed, settled}
use Rattle.row.proofs.Position.{doubled_there, is_found, not_found}
use Rattle.row.proofs.settle.settled.Goals as goal

-- what the test said of the addresses that are seated is so of all of them
module _ (t : Progress) (few : t.task.seats ≤ length t.names) where
  abbrev seated : List Address
  seated = take t.task.seats t.names

  doubled : (b : Bool) → b ≡ is_doubled (name_in seated) (length seated) → is_doubled (name_in t.names) t.task.seats ≡ b
  doubled b e = sym (e ∙ doubled_there t.names seated t.task.seats few refl)

  once : (b : Bool) → b ≡ is_doubled (name_in seated) (length seated) → b ≡ false → (scope : Scope) → t.task.scope ≡ scope → settled t ≡ by_scope t scope
  unfolding choose
  once b e f scope s = rw (doubled b e ∙ f, s) refl

  there : (o : Option ℕ) (k : ℕ) → o ≡ position (λ b. equals t.task.to b) seated → o ≡ Some k → addressed t ≡ second_round t k Round.One (Whom.Seat k)
  unfolding choose
  there o k e f =
      let p = is_found t.names seated t.task.seats few refl t.task.to k (sym e ∙ f) in
      rw (p.is, lt-ltb k t.task.seats p.inside) refl

  nowhere : (o : Option ℕ) → o ≡ position (λ b. equals t.task.to b) seated → o ≡ None → addressed t ≡ ended t (silent ClassOutcome.NoSeat)
  unfolding choose
  nowhere o e f = rw (not_found t.names seated t.task.seats few refl t.task.to (sym e ∙ f)) refl

pub returns-then-is_doubled : goal.returns-then-is_doubled
unfolding choose
returns-then-is_doubled c = rw (doubled c.args.t (omega arith) _ c.is_doubled.ensures ∙ c.if-is_doubled.true) (rw c.silent.ensures at c.ended.ensures)

pub returns-in-Ill : goal.returns-in-Ill
returns-in-Ill c = rw c.silent-in-Ill.ensures at c.ended-in-Ill.ensures ∙ sym (once c.args.t (omega arith) _ c.is_doubled.ensures c.if-is_doubled.false _ c.in-Ill.is)

pub returns-in-Unheard : goal.returns-in-Unheard
returns-in-Unheard c =
    rw c.silent-in-Unheard.ensures at c.ended-in-Unheard.ensures ∙ sym (once c.args.t (omega arith) _ c.is_doubled.ensures c.if-is_doubled.false _ c.in-Unheard.is)

pub returns-in-Some : goal.returns-in-Some
returns-in-Some c =
    let t = c.args.t in
    c.second_round.ensures
    ∙ sym (once t (omega arith) _ c.is_doubled.ensures c.if-is_doubled.false _ c.in-One.is ∙ there t (omega arith) _ c.in-Some.seat c.seat_named.ensures c.in-Some.is)

pub returns-in-None : goal.returns-in-None
returns-in-None c =
    let t = c.args.t in
    rw c.silent-in-None.ensures at c.ended-in-None.ensures
    ∙ sym (once t (omega arith) _ c.is_doubled.ensures c.if-is_doubled.false _ c.in-One.is ∙ nowhere t (omega arith) _ c.seat_named.ensures c.in-None.is)

pub returns-in-All : goal.returns-in-All
returns-in-All c = c.second_round-in-All.ensures ∙ sym (once c.args.t (omega arith) _ c.is_doubled.ensures c.if-is_doubled.false _ c.in-All.is)

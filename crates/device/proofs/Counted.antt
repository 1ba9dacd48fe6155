-- No more records are read than a fit link memory has.
use Prim.Native.Nat.{ℕ, ◌≤◌, ◌<◌, ◌%◌}
use mathlib.Core.Path.{◌≡◌}
use mathlib.Core.Bool.{true}
use mathlib.Core.List.{List}
use native.Mathlib.Omega.{arith}
use lib.Dec.{eqb, leb, ltb}
use lib.ListN.{length}
use borrow.Author.Tests.{ltb-true, leb-true}
use Rattle.std.specs.Prelude.{Option, Some, None, Result, Ok, Err}
use Rattle.basis.specs.Numbers.{within}
use Rattle.basis.proofs.Choice.{either, by}
use Rattle.basis.proofs.Tests.{both}
use Rattle.wire.specs.declared.kind.Message.{Message}
use Rattle.wire.specs.declared.kind.MessageKind.{MessageKind}
use Rattle.wire.specs.declared.kind.Unread.{Unread}
use Rattle.links.specs.declared.search.Searched.{Searched}
use Rattle.links.specs.declared.search.Wanted.{Wanted}
use Rattle.links.specs.Record.{is_fit, records, record_at, is_end_mark}
use Rattle.links.specs.Search.{stop_of, stopped_at, search_of}
use Rattle.reply.specs.Reply.{reply_of}
use Rattle.module.specs.declared.state.Module.{Module}
use Rattle.decide.specs.declared.rule.Ruling.{Ruling}
use Rattle.decide.specs.Decide.{wanted_of}
use Rattle.decide.specs.Ruling.{read_ruling, ruling_by}
use Rattle.device.specs.Step.{Step, step_by}

module _ (m : Module) (l : List ℕ) where
  stopped : (k : ℕ) → (stopped_at l k).read ≤ records l
  stopped k =
      by (λ (x : Searched). x.read ≤ records l) (ltb k (records l))
      (λ q.
      let here : k < records l = ltb-true k (records l) q in
      either (λ (x : Searched). x.read ≤ records l) (is_end_mark (record_at l k)) (omega (arith, here)) (omega (arith, here)))
      (λ q. omega arith)

  searched : (w : Option Wanted) → (search_of l w).read ≤ records l
  searched (Some w) = stopped (stop_of l w)
  searched None = omega arith

  ruled : (d : List ℕ) (r : Result MessageKind Unread) → (read_ruling m l d r).read ≤ records l
  ruled d (Ok kind) = searched (wanted_of kind)
  ruled d (Err Unread.BadLength) = omega arith
  ruled d (Err Unread.BadSum) = omega arith

  few : is_fit l ≡ true → length l ≤ 2048
  few q = leb-true (length l) 2048 (both (leb 1 (length l)) (leb (length l) 2048) (both (within 1 2048 (length l)) (eqb (length l % 8) 0) q).0).1

  most-ruled : (heard : Message) → (ruling_by m l heard).read ≤ 256
  unfolding ruling_by
  most-ruled heard =
      by (λ (r : Ruling). r.read ≤ 256) (is_fit l)
      (λ q.
      let bytes : length l ≤ 2048 = few q in
      let most : (read_ruling m l heard.«data» heard.reading).read ≤ records l = ruled heard.«data» heard.reading in
      omega (arith, bytes, most))
      (λ q. omega arith)

  pub most_read : (heard : Message) (room : List ℕ) → (step_by m l heard room).read ≤ 256
  most_read heard room =
      either (λ (t : Step). t.read ≤ 256) (ltb (length room) (length (reply_of m.identity.address l (ruling_by m l heard).plan.due)))
      (most-ruled heard) (most-ruled heard)

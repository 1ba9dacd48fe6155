-- The turns that are left end in what the contract says, and each turn leaves one fewer.
use Prim.Native.Nat.{ℕ, ◌≤◌}
use mathlib.Core.List.{List}
use lib.ListN.{length}
use Rattle.wire.specs.declared.kind.Message.{Message}
use Rattle.module.specs.declared.state.Module.{Module}
use Rattle.row.specs.declared.progress.Progress.{Progress}
use Rattle.class.specs.Class.{class_of}
use Rattle.class.proofs.Runs.{Runs, turns}
use Rattle.class.proofs.Rounds.{opens}
use Rattle.class.proofs.step.class_step.Given as goal

pub record Left (row : List Module) (links message room : List ℕ) (heard : Message) (xs : List Module) (t : Progress) (ls rs : List ℕ) : Type 0 where
  pub left : ℕ
  pub fewer : left ≤ (opens row links message room).left
  pub runs : Runs (class_of row links message room) heard (length links) left xs t ls rs

abbrev pub invariant-loop-t : goal.invariant-loop-t
invariant-loop-t l = Left l.fn.row l.fn.links l.fn.message l.fn.room l.heard l.row l.t l.links l.room

abbrev pub decreases-loop-t : goal.decreases-loop-t
decreases-loop-t l = turns l.heard (opens l.fn.row l.fn.links l.fn.message l.fn.room).left l.row l.t l.links l.room

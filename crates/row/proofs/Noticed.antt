-- What is noticed by the addresses: no turn is left, or the second round is on.
use Prim.Native.Nat.{ℕ, ◌/◌, ◌<◌}
use mathlib.Core.Path.{◌≡◌, refl}
use mathlib.Core.Bool.{Bool, true, false}
use mathlib.Core.List.{List}
use native.Mathlib.Omega.{arith}
use lib.Dec.{ltb}
use borrow.Author.Tests.{ltb-false}
use Rattle.basis.specs.Choice.{choose}
use Rattle.basis.proofs.Choice.{either, by}
use Rattle.wire.specs.declared.address.Address.{Address}
use Rattle.wire.specs.declared.kind.Message.{Message}
use Rattle.row.specs.declared.progress.Progress.{Progress}
use Rattle.row.specs.declared.progress.Round.{Round}
use Rattle.row.specs.declared.progress.Scope.{Scope}
use Rattle.row.specs.Row.{is_row_fit}
use Rattle.row.specs.Round.{task_of, begun, opened, all_named, by_scope, settled, noticed}

-- a round in which seats are served
pub data Serves : Round → Type 0 where
  one : Serves Round.One
  all : Serves Round.All

-- so many seats, and whoever has a turn is served
pub record Due (n : ℕ) (t : Progress) : Type 0 where
  pub seats : t.task.seats ≡ n
  pub serves : t.seat < n → Serves t.round

module _ (n : ℕ) where
  over : (t : Progress) → t.task.seats ≡ n → t.seat ≡ n → Due n t
  over t e f = record { seats = e; serves = λ h. absurd (omega (arith, f, h)) }

  by_scope_lem : (t : Progress) → t.task.seats ≡ n → (scope : Scope) → Due n (by_scope t scope)
  by_scope_lem t e Scope.Ill = over _ e e
  by_scope_lem t e Scope.Unheard = over _ e e
  by_scope_lem t e Scope.One = either (Due n) _ (record { seats = e; serves = λ h. one }) (over _ e e)
  by_scope_lem t e Scope.All = record { seats = e; serves = λ h. all }

  when_settled : (t : Progress) → t.task.seats ≡ n → Due n (settled t)
  when_settled t e = either (Due n) _ (over _ e e) (by_scope_lem t e t.task.scope)

pub due : (names : List Address) (n bytes : ℕ) (heard : Message) → Due n (noticed names n bytes heard)
unfolding noticed opened choose
due names n bytes heard = go (is_row_fit n bytes)
  where
    t : Bool → Progress
    t b = choose b (begun 0 (task_of n (bytes / n) heard)) (begun n (task_of n 0 heard))

    go : (b : Bool) → Due n (choose (ltb (t b).seat n) (settled (all_named names (t b))) (t b))
    go true =
        by (Due n) (ltb 0 n) (λ q. when_settled n (all_named names (t true)) refl)
        (λ q. record { seats = refl; serves = λ h. absurd (omega (arith, ltb-false 0 n q, h)) })
    go false = either (Due n) (ltb n n) (when_settled n (all_named names (t false)) refl) (over n (t false) refl refl)

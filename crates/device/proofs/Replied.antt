-- The reply stands at the start of the room.
use Prim.Native.Nat.{ℕ, ◌≤◌}
use mathlib.Core.Path.{◌≡◌, refl}
use mathlib.Core.List.{List}
use native.Mathlib.Omega.{arith}
use lib.Dec.{ltb}
use lib.ListN.{length, take}
use lib.Seq.{take-append_seam}
use borrow.Author.Tests.{ltb-false}
use Rattle.basis.proofs.Choice.{by}
use Rattle.reply.specs.Reply.{reply_of}
use Rattle.module.specs.declared.state.Module.{Module}
use Rattle.decide.specs.Ruling.{ruling_of}
use Rattle.device.specs.Step.{Step, step_of}

pub record Replied (room : List ℕ) (t : Step) : Type 0 where
  pub fits : length t.reply ≤ length room
  pub start : take (length t.reply) t.room ≡ t.reply

pub replied : (m : Module) (l s room : List ℕ) → Replied room (step_of m l s room)
replied m l s room =
    let due : List ℕ = reply_of m.identity.address l (ruling_of m l s).plan.due in
    by (Replied room) (ltb (length room) (length due))
    (λ e. record { fits = omega arith; start = refl })
    (λ e. record { fits = ltb-false (length room) (length due) e; start = take-append_seam due _ })

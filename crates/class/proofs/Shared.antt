-- A seat's share, lent and put back.
use Prim.Native.Nat.{ℕ, ◌+◌, ◌-◌, ◌*◌}
use mathlib.Core.Path.{◌≡◌, ap, subst, sym}
use mathlib.Core.List.{List}
use native.Mathlib.Omega.{arith}
use borrow.Rule.Slice.PartMut.{mid_of, put_mid}
use Rattle.wire.specs.declared.kind.Message.{Message}
use Rattle.module.specs.declared.state.Module.{Module}
use Rattle.device.specs.declared.step.Answer.{Answer}
use Rattle.device.specs.Step.{step_by, Comes}
use Rattle.row.specs.declared.progress.Progress.{Progress}
use Rattle.class.specs.Turns.{step_in}

-- the bytes between two places
pub between : (a b : ℕ) → a + b - a ≡ b
between a b = omega arith

module _ (m : Module) (t : Progress) (h : Message) (l room : List ℕ) (a : Answer) (part after : List ℕ) where
  abbrev from : ℕ
  from = t.seat * t.task.share

  abbrev Lent : ℕ → Type 0
  Lent k = Comes (step_by m (mid_of from k l) h room) a part after

  abbrev Back : ℕ → Type 0
  Back k = Comes (step_in m t h l room) a (put_mid from k l part) after

  whole : Lent t.task.share → Back t.task.share
  whole p =
      record {
        number = p.number;
        outcome = p.outcome;
        sent = p.sent;
        read = p.read;
        next = p.next;
        memory = ap (put_mid from t.task.share l) p.memory;
        room_after = p.room_after;
      }

  pub put_back : Lent (from + t.task.share - from) → Back (from + t.task.share - from)
  put_back p = subst Back (sym (between from t.task.share)) (whole (subst Lent (between from t.task.share) p))

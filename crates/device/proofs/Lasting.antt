-- No message alters who the module is, for which no change has a case, nor of what kind it is.
use Prim.Native.Nat.{ℕ}
use mathlib.Core.Path.{◌≡◌, refl}
use mathlib.Core.List.{List}
use Rattle.basis.proofs.Choice.{either}
use Rattle.wire.specs.declared.kind.Message.{Message}
use Rattle.module.specs.declared.state.Module.{Module}
use Rattle.module.specs.declared.change.Change.{Change}
use Rattle.module.specs.Module.{kind_of}
use Rattle.module.specs.Change.{apply}
use Rattle.decide.specs.Ruling.{heard_by, ruling_by}
use Rattle.decide.proofs.SameKind.{ruling_same}
use Rattle.device.specs.Step.{Step, step_by, step_of}

lasts : (m : Module) (change : Change) → (apply change m).identity ≡ m.identity
lasts m Change.Nothing = refl
lasts m (Change.Flags x) = refl
lasts m (Change.Led x) = refl
lasts m (Change.X10 house unit) = refl
lasts m (Change.Load x) = refl
lasts m Change.NextDelta = refl

pub identity_by : (m : Module) (l : List ℕ) (heard : Message) (room : List ℕ) → (step_by m l heard room).next.identity ≡ m.identity
identity_by m l heard room = either (λ (t : Step). t.next.identity ≡ m.identity) _ refl (lasts m (ruling_by m l heard).plan.change)

pub same_identity : (m : Module) (l s room : List ℕ) → (step_of m l s room).next.identity ≡ m.identity
same_identity m l s room = identity_by m l (heard_by m s) room

pub kind_by : (m : Module) (l : List ℕ) (heard : Message) (room : List ℕ) → kind_of (step_by m l heard room).next.load ≡ kind_of m.load
kind_by m l heard room = either (λ (t : Step). kind_of t.next.load ≡ kind_of m.load) _ refl (ruling_same m l heard)

pub same_kind : (m : Module) (l s room : List ℕ) → kind_of (step_of m l s room).next.load ≡ kind_of m.load
same_kind m l s room = kind_by m l (heard_by m s) room

-- A kind leaves every row of all kinds as it is.
use Prim.Native.Nat.{ℕ}
use mathlib.Core.Path.{◌≡◌, ◌∙◌, ap}
use mathlib.Core.List.{List}
use Rattle.basis.specs.Choice.{choose}
use Rattle.wire.specs.declared.command.OpenCommand.{OpenCommand}
use Rattle.wire.specs.declared.command.ModuleCommand.{ModuleCommand}
use Rattle.wire.specs.declared.command.Command.{Command}
use Rattle.wire.specs.Commands.{standards, extendeds}
use Rattle.wire.specs.Asked.{command_in}
use Rattle.wire.proofs.CommandBytes.{short_command, long_command}
use Rattle.load.specs.declared.entry.Entry.{Entry}
use Rattle.load.specs.Judged.{Leaves}
use Rattle.module.specs.declared.state.Module.{Module}
use Rattle.promises.specs.Legal.{Effect, Shared, ping, id-request, engine-version, flags, delta, beep}
use Rattle.promises.specs.Legal.{set-flag, clear-flag, set-x10, set-led, get-database, set-database}

module _ (m : Module) (l s : List ℕ) (entry : Command → Entry) (k : Leaves s entry) where
  pub leaves : (e : Effect) → Shared m l s e → entry (command_in s) ≡ Entry.Shared
  unfolding standards extendeds choose
  leaves e (ping x) = ap entry (short_command s 0x0f x) ∙ k.opens OpenCommand.Ping
  leaves e (id-request x) = ap entry (short_command s 0x10 x) ∙ k.opens OpenCommand.IdRequest
  leaves e (engine-version x) = ap entry (short_command s 0x0d x) ∙ k.modules ModuleCommand.EngineVersion
  leaves e (flags x y) = ap entry (short_command s 0x1f x) ∙ k.modules ModuleCommand.ReadFlags
  leaves e (delta x y) = ap entry (short_command s 0x1f x) ∙ k.modules ModuleCommand.ReadFlags
  leaves e (beep x) = ap entry (short_command s 0x30 x) ∙ k.modules ModuleCommand.Beep
  leaves e (set-flag x b y z) = ap entry (long_command s 0x20 x) ∙ k.set-flags
  leaves e (clear-flag x b y z) = ap entry (long_command s 0x20 x) ∙ k.set-flags
  leaves e (set-x10 x) = ap entry (long_command s 0x2e x.0) ∙ k.x10 x.1 x.2
  leaves e (set-led x y z) = ap entry (long_command s 0x2e x.0) ∙ k.led x.1 x.2
  leaves e (get-database x i y n z) = ap entry (long_command s 0x2f x.0) ∙ k.database
  leaves e (set-database x i y z v) = ap entry (long_command s 0x2f x.0) ∙ k.database

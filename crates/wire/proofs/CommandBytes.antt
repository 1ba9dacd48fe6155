-- Which command the bytes name: the lists of commands, walked once for all kinds of modules.
use Prim.Native.Nat.{ℕ}
use mathlib.Core.Path.{◌≡◌}
use mathlib.Core.Bool.{true, false}
use mathlib.Core.List.{List}
use Rattle.basis.specs.Choice.{choose}
use Rattle.basis.proofs.Choice.{by}
use Rattle.basis.proofs.Table.{◌or◌, by_rows}
use Rattle.wire.specs.declared.command.Standard.{Standard}
use Rattle.wire.specs.declared.command.OpenCommand.{OpenCommand}
use Rattle.wire.specs.declared.command.ModuleCommand.{ModuleCommand}
use Rattle.wire.specs.declared.command.Extended.{Extended}
use Rattle.wire.specs.declared.command.Command.{Command}
use Rattle.wire.specs.Bytes.{command1_of, is_extended}
use Rattle.wire.specs.Commands.{standards, extendeds, standard_of, extended_of}
use Rattle.wire.specs.Asked.{Short, Long, command_in}

-- the Command 1 of each
abbrev pub open_code : OpenCommand → ℕ
open_code OpenCommand.Ping = 0x0f
open_code OpenCommand.IdRequest = 0x10

abbrev pub module_code : ModuleCommand → ℕ
module_code ModuleCommand.EngineVersion = 0x0d
module_code ModuleCommand.ReadFlags = 0x1f
module_code ModuleCommand.Beep = 0x30

module _ (c : ℕ) where
  -- in a standard message
  pub data Told : Standard → Type 0 where
    to-anybody : (command : OpenCommand) → c ≡ open_code command → Told (Standard.Open command)
    to-module : (command : ModuleCommand) → c ≡ module_code command → Told (Standard.Module command)
    to-load : Told Standard.Load

  told : Told (standard_of c)
  unfolding standards
  told =
      by_rows Told c Standard.Load standards
      (to-anybody OpenCommand.Ping
      or to-anybody OpenCommand.IdRequest
      or to-module ModuleCommand.EngineVersion
      or to-module ModuleCommand.ReadFlags
      or to-module ModuleCommand.Beep
      or tt)
      to-load

  -- in an extended one
  pub data ToldLong : Extended → Type 0 where
    to-set-flags : c ≡ 0x20 → ToldLong Extended.SetFlags
    to-properties : c ≡ 0x2e → ToldLong Extended.Properties
    to-database : c ≡ 0x2f → ToldLong Extended.Database
    long-to-load : ToldLong Extended.Load

  told_long : ToldLong (extended_of c)
  unfolding extendeds
  told_long = by_rows ToldLong c Extended.Load extendeds (to-set-flags or to-properties or to-database or tt) long-to-load

-- what holds of every command that the bytes may name holds of the one that they name
pub by_command : (s : List ℕ) (P : Command → Type 0)
    → (is_extended s ≡ true → (command : Extended) → ToldLong (command1_of s) command → P (Command.Extended command))
    → (is_extended s ≡ false → (command : Standard) → Told (command1_of s) command → P (Command.Standard command))
    → P (command_in s)
by_command s P long short =
    by P (is_extended s)
    (λ x. long x (extended_of (command1_of s)) (told_long (command1_of s)))
    (λ x. short x (standard_of (command1_of s)) (told (command1_of s)))

-- the command of a message with this Command 1
pub short_command : (s : List ℕ) (c : ℕ) → Short s c → command_in s ≡ Command.Standard (standard_of c)
unfolding choose
short_command s c x = rw (x.0, x.1)

pub long_command : (s : List ℕ) (c : ℕ) → Long s c → command_in s ≡ Command.Extended (extended_of c)
unfolding choose
long_command s c x = rw (x.0, x.1)

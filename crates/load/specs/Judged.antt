-- What a kind's own table has to show beside its rows.
use Rattle.std.specs.Prelude.{ℕ, ◌≡◌, Option, Some, None, List}
use Rattle.wire.specs.declared.command.Standard.{Standard}
use Rattle.wire.specs.declared.command.OpenCommand.{OpenCommand}
use Rattle.wire.specs.declared.command.ModuleCommand.{ModuleCommand}
use Rattle.wire.specs.declared.command.Extended.{Extended}
use Rattle.wire.specs.declared.command.Command.{Command}
use Rattle.wire.specs.Bytes.{command2_of, data_at}
use Rattle.load.specs.declared.entry.Entry.{Entry}

-- the answer to a command, with a load of type A beside it, is a row; or the command is not listed; or it is as every kind has it
pub data Judged {A : Type 0} (Row : A → Entry → Type 0) (load : A) (entry : Entry) : Type 0 where
  listed : Row load entry → Judged Row load entry
  other : entry ≡ Entry.Unlisted → Judged Row load entry
  left : entry ≡ Entry.Shared → Judged Row load entry

-- the commands that a kind leaves as they are
pub record Leaves (s : List ℕ) (entry : Command → Entry) : Type 0 where
  pub opens : (command : OpenCommand) → entry (Command.Standard (Standard.Open command)) ≡ Entry.Shared
  pub modules : (command : ModuleCommand) → entry (Command.Standard (Standard.Module command)) ≡ Entry.Shared
  pub set-flags : entry (Command.Extended Extended.SetFlags) ≡ Entry.Shared
  pub x10 : command2_of s ≡ 0x00 → data_at s 2 ≡ 0x04 → entry (Command.Extended Extended.Properties) ≡ Entry.Shared
  pub led : command2_of s ≡ 0x00 → data_at s 2 ≡ 0x07 → entry (Command.Extended Extended.Properties) ≡ Entry.Shared
  pub database : entry (Command.Extended Extended.Database) ≡ Entry.Shared

-- and of a group's record: the load afterwards is a row, or no row fits
pub data GroupJudged {A : Type 0} (Row : A → Type 0) : Option A → Type 0 where
  is_row : (load : A) → Row load → GroupJudged Row (Some load)
  no_row : GroupJudged Row None

-- A kind's table: what is its own, and that every other row is as all kinds have it ("Direct commands").
use Rattle.std.specs.Prelude.{ℕ, List, eqb}
use Rattle.basis.specs.Choice.{choose}
use Rattle.wire.specs.declared.request.Request.{Request}
use Rattle.wire.specs.declared.command.Command.{Command}
use Rattle.wire.specs.declared.command.Standard.{Standard}
use Rattle.wire.specs.declared.command.Extended.{Extended}
use Rattle.load.specs.declared.entry.Entry.{Entry}
use Rattle.load.specs.declared.entry.LoadEntry.{LoadEntry}
use Rattle.load.specs.Answer.{stays}

-- standard commands to the load; extended 2E by its data bytes; other extended commands to the load
pub record Own (L : Type 0) : Type 0 where
  pub load_entry : L → Request → LoadEntry L
  pub property_entry : L → List ℕ → LoadEntry L
  pub second_entry : L → Request → List ℕ → LoadEntry L

-- 2E needs Command 2 = 00
unfoldable pub properties_entry : {L : Type 0} → Own L → L → Request → List ℕ → LoadEntry L
properties_entry own load r d = choose (eqb r.command2 0x00) (own.property_entry load d) (stays load Entry.Shared)

abbrev pub standard_entry : {L : Type 0} → Own L → L → Request → Standard → LoadEntry L
standard_entry own load r (Standard.Open command) = stays load Entry.Shared
standard_entry own load r (Standard.Module command) = stays load Entry.Shared
standard_entry own load r Standard.Load = own.load_entry load r

abbrev pub extended_entry : {L : Type 0} → Own L → L → Request → List ℕ → Extended → LoadEntry L
extended_entry own load r d Extended.SetFlags = stays load Entry.Shared
extended_entry own load r d Extended.Properties = properties_entry own load r d
extended_entry own load r d Extended.Database = stays load Entry.Shared
extended_entry own load r d Extended.Load = own.second_entry load r d

-- with the data bytes beside the command
abbrev pub entry_of : {L : Type 0} → Own L → L → Request → List ℕ → Command → LoadEntry L
entry_of own load r d (Command.Standard command) = standard_entry own load r command
entry_of own load r d (Command.Extended command) = extended_entry own load r d command

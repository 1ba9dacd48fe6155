-- A group's row is what the record does, and a record that fits none is not listed.
use Prim.Native.Nat.{ℕ}
use Rattle.std.specs.Prelude.{Option, Some}
use mathlib.Core.Path.{◌≡◌, refl}
use mathlib.Core.List.{List}
use native.Mathlib.Omega.{arith}
use Rattle.wire.specs.declared.command.GroupCommand.{GroupCommand}
use Rattle.wire.specs.Bytes.{command1_of}
use Rattle.wire.specs.Asked.{GroupCommand1}
use Rattle.wire.proofs.Commanded.{Commanded, turns-on, turns-off, neither}
use Rattle.links.specs.declared.memory.Link.{Link}
use Rattle.load.specs.Judged.{GroupJudged, is_row, no_row}
use Rattle.load.specs.declared.state.Lamp.{Lamp}
use Rattle.dimmer.specs.Groups.{group_of}
use Rattle.dimmer.specs.LegalGroups.{GroupDimmer, on, off}

module _ (lamp : Lamp) (s : List ℕ) (link : Link) where
  pub grouped : (x : Lamp) → GroupDimmer lamp s link x → GroupCommand1 s
  grouped x (on a b) = (a, omega arith)
  grouped x (off a b) = (omega arith, b)

  pub says : (command : GroupCommand) → Commanded (command1_of s) command → (x : Lamp) → GroupDimmer lamp s link x
      → group_of lamp command link ≡ Some x
  says command (turns-on p q) x (on a b) = refl
  says command (turns-off p q) x (on a b) = absurd (omega arith)
  says command (turns-on p q) x (off a b) = absurd (omega arith)
  says command (turns-off p q) x (off a b) = refl
  says command (neither none) x row = absurd (none (grouped x row))

  abbrev pub Fits : Option Lamp → Type 0
  Fits = GroupJudged (GroupDimmer lamp s link)

  pub judged : (command : GroupCommand) → Commanded (command1_of s) command → Fits (group_of lamp command link)
  judged command (turns-on p q) = is_row _ (on p q)
  judged command (turns-off p q) = is_row _ (off p q)
  judged command (neither none) = no_row

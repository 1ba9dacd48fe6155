-- A group's row is what the record does, and a record that fits none is not listed.
use Prim.Native.Nat.{ℕ}
use Rattle.std.specs.Prelude.{Option, Some}
use mathlib.Core.Path.{◌≡◌, refl, ◌∙◌}
use mathlib.Core.Bool.{Bool, true, false}
use mathlib.Core.List.{List}
use native.Mathlib.Omega.{arith}
use lib.Dec.{eqb}
use borrow.Author.Tests.{eqb-true, eqb-false, ne_eqb}
use Rattle.basis.specs.Choice.{choose}
use Rattle.basis.proofs.Table.{◌or◌, by_rows}
use Rattle.wire.specs.declared.command.GroupCommand.{GroupCommand}
use Rattle.wire.specs.Bytes.{command1_of}
use Rattle.wire.specs.Asked.{GroupCommand1}
use Rattle.wire.proofs.Commanded.{Commanded, turns-on, turns-off, neither}
use Rattle.links.specs.declared.memory.Link.{Link}
use Rattle.load.specs.Judged.{GroupJudged, is_row, no_row}
use Rattle.load.specs.declared.state.Sockets.{Sockets}
use Rattle.outlet.specs.Groups.{socket_rows, socket_group, group_of}
use Rattle.outlet.specs.LegalGroups.{Turns, on, on-at-zero, off, GroupOutlet, top, bottom}

module _ (sockets : Sockets) (s : List ℕ) (link : Link) where
  turns_grouped : (x : Bool) → Turns s link x → GroupCommand1 s
  turns_grouped x (on a b c) = (a, omega arith)
  turns_grouped x (on-at-zero a b c) = (a, omega arith)
  turns_grouped x (off a b) = (omega arith, b)

  pub grouped : (x : Sockets) → GroupOutlet sockets s link x → GroupCommand1 s
  grouped x (top y a t) = turns_grouped y t
  grouped x (bottom y a t) = turns_grouped y t

  -- the record does what it does to the socket, turned so
  turned : (x : Bool) → Turns s link x → (command : GroupCommand) → Commanded (command1_of s) command
      → group_of sockets command link ≡ socket_group sockets link.d3 x
  turned x (on a b c) command (turns-on p q) = rw (ne_eqb link.d1 0x00 c)
  turned x (on a b c) command (turns-off p q) = absurd (omega arith)
  turned x (on-at-zero a b c) command (turns-on p q) = rw c
  turned x (on-at-zero a b c) command (turns-off p q) = absurd (omega arith)
  turned x (off a b) command (turns-on p q) = absurd (omega arith)
  turned x (off a b) command (turns-off p q) = refl
  turned x t command (neither h) = absurd (h (turns_grouped x t))

  pub says : (command : GroupCommand) → Commanded (command1_of s) command → (x : Sockets) → GroupOutlet sockets s link x
      → group_of sockets command link ≡ Some x
  unfolding socket_group choose
  says command c x (top y a t) = turned y t command c ∙ rw a refl
  says command c x (bottom y a t) = turned y t command c ∙ rw a refl

  abbrev pub Fits : Option Sockets → Type 0
  Fits = GroupJudged (GroupOutlet sockets s link)

  -- the socket that D3 names, if it names one
  named : (x : Bool) → Turns s link x → Fits (socket_group sockets link.d3 x)
  unfolding socket_group
  named x t = by_rows Fits link.d3 _ (socket_rows sockets x) ((λ e. is_row _ (top x e t)) or (λ e. is_row _ (bottom x e t)) or tt) no_row

  pub record Turn : Type 0 where
    pub to : Bool
    pub turns : Turns s link to

  -- each Command 1 in 11 to 14 turns it on or off
  pub some_turn : (command : GroupCommand) → Commanded (command1_of s) command → GroupCommand1 s → Turn
  some_turn command (turns-on p q) h = go (eqb link.d1 0x00) refl
    where
      go : (zero : Bool) → eqb link.d1 0x00 ≡ zero → Turn
      go true e = record { to = false; turns = on-at-zero p q (eqb-true _ 0x00 e) }
      go false e = record { to = true; turns = on p q (eqb-false _ 0x00 e) }
  some_turn command (turns-off p q) h = record { to = false; turns = off p q }
  some_turn command (neither none) h = absurd (none h)

  pub judged : (command : GroupCommand) → Commanded (command1_of s) command → Fits (group_of sockets command link)
  judged command (turns-on p q) =
      let t = some_turn command (turns-on p q) (p, omega arith) in
      rw (turned t.to t.turns command (turns-on p q)) (named t.to t.turns)
  judged command (turns-off p q) = named false (off p q)
  judged command (neither none) = no_row

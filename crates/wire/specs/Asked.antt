-- What a message asks for, by its bytes.
use Rattle.std.specs.Prelude.{ℕ, ◌≤◌, ◌≡◌, true, false, List}
use Rattle.wire.specs.declared.command.Command.{Command}
use Rattle.wire.specs.Bytes.{command1_of, command2_of, data_at, is_extended}
use Rattle.wire.specs.Kinds.{command_of}

module _ (s : List ℕ) where
  -- a standard message, and an extended one, with this Command 1
  abbrev pub Short : ℕ → Type 0
  Short c = (is_extended s ≡ false) × (command1_of s ≡ c)

  abbrev pub Long : ℕ → Type 0
  Long c = (is_extended s ≡ true) × (command1_of s ≡ c)

  -- an extended one with Command 2 = 00 and this Data 2
  abbrev pub Asks : ℕ → ℕ → Type 0
  Asks c d2 = Long c × (command2_of s ≡ 0x00) × (data_at s 2 ≡ d2)

  -- "Groups": Command 1 in 11 to 14
  abbrev pub GroupCommand1 : Type 0
  GroupCommand1 = (0x11 ≤ command1_of s) × (command1_of s ≤ 0x14)

  -- the direct command that the bytes name
  abbrev pub command_in : Command
  command_in = command_of (is_extended s) (command1_of s)

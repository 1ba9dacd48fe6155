-- The four kinds of messages, by flags bits 7 to 5 ("Message bytes").
use Rattle.std.specs.Prelude.{ℕ, ◌/◌, Bool, ◌&&◌, ◌||◌, not, List, eqb, ltb, length}
use Rattle.basis.specs.Choice.{choose}
use Rattle.wire.specs.declared.address.Address.{Address}
use Rattle.wire.specs.declared.command.Command.{Command}
use Rattle.wire.specs.declared.kind.MessageKind.{MessageKind}
use Rattle.wire.specs.Bytes.{from_of, to_of, flags_of, command1_of, request_of, is_extended, equals}
use Rattle.wire.specs.Commands.{standard_of, extended_of, group_command_of}

-- bits 7 to 5 as a number
abbrev pub type_of : List ℕ → ℕ
type_of s = flags_of s / 32

-- 000
abbrev pub is_direct : List ℕ → Bool
is_direct s = eqb (type_of s) 0

-- 010
abbrev pub is_cleanup : List ℕ → Bool
is_cleanup s = eqb (type_of s) 2

-- 110
abbrev pub is_broadcast : List ℕ → Bool
is_broadcast s = eqb (type_of s) 6

-- of no kind that we hear: another type; extended but not direct
abbrev pub is_unheard : List ℕ → Bool
is_unheard s = not (is_direct s || is_cleanup s || is_broadcast s) || (is_extended s && not (is_direct s))

-- not addressed to us: direct or cleanup with To not ours
abbrev pub is_astray : List ℕ → Address → Bool
is_astray s own = (is_direct s || is_cleanup s) && not (equals (to_of s) own)

-- result 3
abbrev pub is_foreign : List ℕ → Address → Bool
is_foreign s own = is_unheard s || is_astray s own

-- a direct command, by the message's length and Command 1
abbrev pub command_of : Bool → ℕ → Command
command_of long command1 = choose long (Command.Extended (extended_of command1)) (Command.Standard (standard_of command1))

-- the kind of a message that is not foreign
unfoldable pub kind_of : List ℕ → MessageKind
kind_of s =
    choose (is_direct s) (MessageKind.Direct (request_of s) (command_of (is_extended s) (command1_of s)))
    (choose (is_cleanup s) (MessageKind.Cleanup (request_of s) (group_command_of (command1_of s)))
    (MessageKind.Broadcast (from_of s) (to_of s) (group_command_of (command1_of s))))

-- what a message is, whoever it is for; foreign where it is too short to tell
unfoldable pub heard_as : List ℕ → MessageKind
heard_as s = choose (ltb (length s) 9 || is_unheard s) MessageKind.Foreign (kind_of s)

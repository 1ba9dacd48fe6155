-- The bytes of a message ("Message bytes").
use Rattle.std.specs.Prelude.{ℕ, ◌+◌, ◌-◌, ◌%◌, Bool, ◌&&◌, List, eqb, ltb, length, get_or}
use Rattle.basis.specs.Numbers.{is_set}
use Rattle.basis.specs.Choice.{choose}
use Rattle.basis.specs.Spell.{spell}
use Rattle.wire.specs.declared.address.Address.{Address}
use Rattle.wire.specs.declared.request.Request.{Request}

abbrev pub address_at : List ℕ → ℕ → Address
address_at s k = record { high = get_or s k 0; middle = get_or s (k + 1) 0; low = get_or s (k + 2) 0 }

abbrev pub equals : Address → Address → Bool
equals a b = eqb a.high b.high && eqb a.middle b.middle && eqb a.low b.low

-- From (3), To (3), flags, Command 1, Command 2
abbrev pub from_of : List ℕ → Address
from_of s = address_at s 0

abbrev pub to_of : List ℕ → Address
to_of s = address_at s 3

-- nobody's address
abbrev pub no_name : Address
no_name = record { high = 0; middle = 0; low = 0 }

-- whom a message is for; nobody where it is too short to say
abbrev pub named_in : List ℕ → Address
named_in s = choose (ltb (length s) 9) no_name (to_of s)

abbrev pub flags_of : List ℕ → ℕ
flags_of s = get_or s 6 0

abbrev pub command1_of : List ℕ → ℕ
command1_of s = get_or s 7 0

abbrev pub command2_of : List ℕ → ℕ
command2_of s = get_or s 8 0

-- the largest hop count: flags bits 1 and 0
abbrev pub hops_of : List ℕ → ℕ
hops_of s = flags_of s % 4

abbrev pub request_of : List ℕ → Request
request_of s = record { from = from_of s; hops = hops_of s; command1 = command1_of s; command2 = command2_of s }

-- then Data 1 to Data 14, of an extended message; 00 where a message has none
abbrev pub data_at : List ℕ → ℕ → ℕ
data_at s i = get_or s (8 + i) 0

abbrev pub data_of : List ℕ → List ℕ
data_of s = spell 14 9 s

-- Data i among these
abbrev pub data_in : List ℕ → ℕ → ℕ
data_in d i = get_or d (i - 1) 0

-- flags bit 4 set means extended
abbrev pub is_extended : List ℕ → Bool
is_extended s = is_set 4 (flags_of s)

-- 23 bytes where it is extended, else 9: result 1 does not apply
abbrev pub is_whole : List ℕ → Bool
is_whole s = eqb (length s) (choose (is_extended s) 23 9)

-- Records of link memory, and their bits ("Link memory").
use Rattle.std.specs.Prelude.{ℕ, ◌*◌, ◌/◌, ◌%◌, Bool, ◌&&◌, not, List, eqb, ltb, length, get_or, replicate}
use Rattle.basis.specs.Choice.{choose}
use Rattle.basis.specs.Numbers.{is_set, within}
use Rattle.basis.specs.Spell.{spell}
use Rattle.wire.specs.Bytes.{address_at, equals}
use Rattle.wire.specs.declared.address.Address.{Address}
use Rattle.links.specs.declared.memory.Link.{Link}

-- not 0, not over 2,048, and a multiple of 8
abbrev pub is_fit_size : ℕ → Bool
is_fit_size n = within 1 2048 n && eqb (n % 8) 0

-- its length is so: result 2 does not apply
abbrev pub is_fit : List ℕ → Bool
is_fit l = is_fit_size (length l)

abbrev pub records : List ℕ → ℕ
records l = length l / 8

-- where record k of a memory stands: records of eight bytes, record 0 first
unfoldable pub start_of : List ℕ → ℕ → ℕ
start_of l k = k * 8

abbrev pub record_at : List ℕ → ℕ → List ℕ
record_at l k = spell 8 (start_of l k) l

-- past the last record, a never-used one
abbrev pub record_or_blank : List ℕ → ℕ → List ℕ
record_or_blank l k = choose (ltb k (records l)) (record_at l k) (replicate 8 0)

-- flags, group, address (3), D1, D2, D3
abbrev pub link_of : List ℕ → Link
link_of r = record { flags = get_or r 0 0; group = get_or r 1 0; address = address_at r 2; d1 = get_or r 5 0; d2 = get_or r 6 0; d3 = get_or r 7 0 }

-- bit 7: in use
abbrev pub is_in_use : List ℕ → Bool
is_in_use r = is_set 7 (link_of r).flags

-- bit 6: controller; clear: responder
abbrev pub is_responder : List ℕ → Bool
is_responder r = not (is_set 6 (link_of r).flags)

-- bit 1 clear: never used
abbrev pub is_end_mark : List ℕ → Bool
is_end_mark r = not (is_set 1 (link_of r).flags)

abbrev pub bears : List ℕ → Address → Bool
bears r a = equals (link_of r).address a

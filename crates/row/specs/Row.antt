-- A row by its addresses and its measure (document 02, "One bench for a class").
use Rattle.std.specs.Prelude.{ℕ, ◌/◌, ◌%◌, Bool, ◌&&◌, eqb, ltb}
use Rattle.basis.specs.First.{first}
use Rattle.basis.specs.Numbers.{within}
use Rattle.wire.specs.declared.address.Address.{Address}
use Rattle.wire.specs.Bytes.{equals}
use Rattle.links.specs.Record.{is_fit_size}

-- as many bytes as fit link memory has
abbrev pub is_share_fit : ℕ → Bool
is_share_fit w = is_fit_size w

-- one to sixteen seats, and equal shares that are fit: result 11 does not apply
abbrev pub is_row_fit : ℕ → ℕ → Bool
is_row_fit n bytes = (within 1 16 n && eqb (bytes % n) 0) && is_share_fit (bytes / n)

-- of n seats the first with that name; n where there is none
abbrev pub seat_named : (ℕ → Address) → ℕ → Address → ℕ
seat_named name n a = first (λ i. equals a (name i)) n

-- a seat before it has the name of seat i
abbrev pub is_taken : (ℕ → Address) → ℕ → Bool
is_taken name i = ltb (seat_named name i (name i)) i

-- two of n seats have one name: result 9
abbrev pub is_doubled : (ℕ → Address) → ℕ → Bool
is_doubled name n = ltb (first (is_taken name) n) n

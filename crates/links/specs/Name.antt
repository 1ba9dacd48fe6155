-- Names of records on the wire ("Link memory").
use Rattle.std.specs.Prelude.{ℕ, ◌+◌, ◌-◌, ◌*◌, Bool, eqb, ltb, Option, Some, None}
use Rattle.basis.specs.Choice.{choose}
use Rattle.basis.specs.First.{first}

-- the address that record k is shown by
abbrev pub name_of : ℕ → ℕ
name_of k = 0x0fff - 8 * k

-- 0000 means 0FFF
unfoldable pub meant : ℕ → ℕ
meant address = choose (eqb address 0x0000) 0x0fff address

-- a name is 0FFF minus 8k
abbrev pub names : ℕ → ℕ → Bool
names name k = eqb (name + 8 * k) 0x0fff

-- the record, of n, that an address names; any other address is illegal
unfoldable pub place_of : ℕ → ℕ → Option ℕ
place_of n address =
    let k : ℕ = first (names (meant address)) n in
    choose (ltb k n) (Some k) None

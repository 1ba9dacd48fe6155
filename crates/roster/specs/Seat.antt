-- A fresh module of a kind ("The program"; the outlet by request 1).
use Rattle.std.specs.Prelude.{ℕ}
use Rattle.wire.specs.declared.address.Address.{Address}
use Rattle.module.specs.declared.state.Identity.{Identity}
use Rattle.module.specs.declared.state.Module.{Module}
use Rattle.module.specs.Module.{fresh_dimmer, fresh_outlet}
use Rattle.roster.specs.declared.word.Kind.{Kind}

-- with revision 00
abbrev pub identity_of : Address → ℕ → ℕ → ℕ → Identity
identity_of a category subcategory firmware =
    record { address = a; category = category; subcategory = subcategory; firmware = firmware; revision = 0x00 }

abbrev pub fresh_as : Kind → Identity → Module
fresh_as Kind.Dimmer i = fresh_dimmer i
fresh_as Kind.Outlet i = fresh_outlet i

-- as the bench has it, at any address: 01, 0F, C1, 00, and 02, 39, C2, 00
abbrev pub fresh_at : Kind → Address → Module
fresh_at Kind.Dimmer a = fresh_dimmer (identity_of a 0x01 0x0f 0xc1)
fresh_at Kind.Outlet a = fresh_outlet (identity_of a 0x02 0x39 0xc2)

-- a module alone, at address 00 10 3A whatever its kind
abbrev pub bench_of : Kind → Module
bench_of kind = fresh_at kind (record { high = 0x00; middle = 0x10; low = 0x3a })

-- A row of modules, and its link memory in equal shares (document 02, "One bench for a class").
use Rattle.std.specs.Prelude.{ℕ, ◌*◌, false, List, ◌++◌, get_or, take, drop}
use Rattle.wire.specs.declared.address.Address.{Address}
use Rattle.wire.specs.Bytes.{no_name}
use Rattle.load.specs.declared.state.Load.{Load}
use Rattle.module.specs.declared.state.Module.{Module}

-- what stands past the row's end
abbrev pub nobody : Module
nobody =
    record {
      identity = record { address = no_name; category = 0; subcategory = 0; firmware = 0; revision = 0 };
      flags = 0;
      led = 0;
      house = 0;
      unit = 0;
      delta = 0;
      load = Load.Outlet (record { top = false; bottom = false });
    }

abbrev pub seat_at : List Module → ℕ → Module
seat_at row i = get_or row i nobody

abbrev pub name_at : List Module → ℕ → Address
name_at row i = (seat_at row i).identity.address

-- seat i's share, of w bytes, and link memory with x in its place
abbrev pub share_at : ℕ → ℕ → List ℕ → List ℕ
share_at w i l = take w (drop (i * w) l)

abbrev pub with_share : ℕ → ℕ → List ℕ → List ℕ → List ℕ
with_share w i x l = take (i * w) l ++ (x ++ drop w (drop (i * w) l))

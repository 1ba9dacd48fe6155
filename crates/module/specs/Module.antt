-- The module's values ("The module we simulate"; the outlet by request 1).
use Rattle.std.specs.Prelude.{ℕ}
use Rattle.load.specs.declared.state.Load.{Load}
use Rattle.load.specs.Fresh.{fresh_lamp, fresh_sockets}
use Rattle.module.specs.declared.state.Identity.{Identity}
use Rattle.module.specs.declared.state.Module.{Module}

-- what every kind starts with: flags 00, LED 3F, X10 20 20, delta 00
abbrev pub fresh_with : Load → Identity → Module
fresh_with load i =
    record {
      identity = i;
      flags = 0x00;
      led = 0x3f;
      house = 0x20;
      unit = 0x20;
      delta = 0x00;
      load = load;
    }

abbrev pub fresh_dimmer : Identity → Module
fresh_dimmer = fresh_with (Load.Dimmer fresh_lamp)

abbrev pub fresh_outlet : Identity → Module
fresh_outlet = fresh_with (Load.Outlet fresh_sockets)

-- the number of a module's kind, as its image has it: 01 a dimmer, 02 an outlet
abbrev pub kind_of : Load → ℕ
kind_of (Load.Dimmer lamp) = 0x01
kind_of (Load.Outlet sockets) = 0x02

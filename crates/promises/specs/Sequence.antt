-- P7's two messages, one after the other ("Bench examples").
use Rattle.std.specs.Prelude.{◌≡◌, List, [], ◌∷◌, map}
use Rattle.device.specs.Run.{Call, run_of}
use Rattle.promises.specs.Bench.{with_level, fresh, linked, memory, direct, reply, room}
use Rattle.promises.specs.Table.{out_of}

unfoldable pub calls : List Call
calls =
    record { message = direct linked 0x39 0x32; room = room 9 } ∷
    record { message = direct linked 0x19 0x06; room = room 9 } ∷
    []

abbrev pub OneAfterTheOther : Type 0
OneAfterTheOther =
    map out_of (run_of (record { device = fresh; links = memory }) calls) ≡
    record { number = 0; sent = reply linked 0x2f 0x39 0x32; read = 1; next = with_level 0x80 fresh; links = memory; room = reply linked 0x2f 0x39 0x32 } ∷
    record { number = 0; sent = reply linked 0x2f 0x00 0x32; read = 1; next = with_level 0x80 fresh; links = memory; room = reply linked 0x2f 0x00 0x32 } ∷
    []

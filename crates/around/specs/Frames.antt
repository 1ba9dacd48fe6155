-- P7's two messages as the program has them ("Bench examples", "The program").
use Rattle.std.specs.Prelude.{◌≡◌, [], ◌∷◌, ◌++◌}
use Rattle.modem.specs.Frames.{frame_of}
use Rattle.modem.specs.Stream.{stream_of}
use Rattle.promises.specs.Bench.{with_level, fresh, linked, memory, direct, reply, room}

-- each frame gets its own reply, and none that of the frame before
abbrev pub FrameAfterFrame : Type 0
FrameAfterFrame =
    stream_of (record { device = fresh; links = memory }) (room 9) (frame_of (direct linked 0x39 0x32) ++ frame_of (direct linked 0x19 0x06)) ≡
    record {
      written =
          frame_of (reply linked 0x2f 0x39 0x32) ∷
          frame_of (reply linked 0x2f 0x00 0x32) ∷
          [];
      state = record { device = with_level 0x80 fresh; links = memory };
      kept = [];
    }

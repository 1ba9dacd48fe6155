-- The checker computes both frames.
use mathlib.Core.Path.{refl}
use Rattle.basis.specs.Choice.{choose}
use Rattle.basis.specs.First.{first_from}
use Rattle.wire.specs.Commands.{standards}
use Rattle.wire.specs.Kinds.{kind_of}
use Rattle.wire.specs.Reading.{read_of}
use Rattle.links.specs.Record.{start_of}
use Rattle.links.specs.Search.{stop_of}
use Rattle.dimmer.specs.Load.{status_entry, percent_entry, load_entry}
use Rattle.decide.specs.Decide.{direct_plan}
use Rattle.decide.specs.Ruling.{ruling_by}
use Rattle.device.specs.Run.{run_of, end_of}
use Rattle.modem.specs.Arrived.{frame_start}
use Rattle.modem.specs.Frames.{framed_by}
use Rattle.modem.specs.Stream.{cut_by}
use Rattle.promises.specs.Bench.{with_level, with_ramp, fresh, us, linked, zeros, first_record, memory, direct, reply, room}
use Rattle.around.specs.Frames.{FrameAfterFrame}

pub frame_after_frame : FrameAfterFrame
unfolding choose first_from standards kind_of read_of start_of stop_of status_entry percent_entry load_entry direct_plan ruling_by run_of end_of frame_start cut_by framed_by
    with_level with_ramp fresh us linked zeros first_record memory direct reply room
frame_after_frame = refl

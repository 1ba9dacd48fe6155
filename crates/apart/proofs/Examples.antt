-- The checker computes the table.
use mathlib.Core.Path.{refl}
use Rattle.basis.specs.Choice.{choose}
use Rattle.basis.specs.First.{first_from}
use Rattle.wire.specs.Commands.{standards, extendeds, group_command_of}
use Rattle.wire.specs.Kinds.{kind_of}
use Rattle.wire.specs.Reading.{read_of}
use Rattle.links.specs.Record.{start_of}
use Rattle.links.specs.Search.{stop_of}
use Rattle.dimmer.specs.Load.{load_entry}
use Rattle.outlet.specs.Load as outlet-load
use Rattle.outlet.specs.Groups.{socket_group}
use Rattle.decide.specs.Decide.{direct_plan}
use Rattle.decide.specs.Ruling.{ruling_by}
use Rattle.class.specs.Class.{heard_from, class_of}
use Rattle.promises.specs.Bench.{linked, stranger, zeros, first_record, memory, room}
use Rattle.promises.specs.Outlets.{group_1, record_of}
use Rattle.apart.specs.Examples.{dimmer, outlet, lit, top_on, seats, shares, pair, twins, seat, to_seat, of_seat, called, examples, cramped, AllRight}

pub all_right : AllRight
unfolding choose first_from standards extendeds group_command_of kind_of read_of start_of stop_of load_entry outlet-load.load_entry socket_group direct_plan ruling_by heard_from class_of linked stranger
    zeros first_record memory room group_1 record_of dimmer outlet lit top_on seats shares pair twins seat to_seat of_seat called examples cramped
all_right = refl

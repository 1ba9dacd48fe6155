-- The checker computes the tables.
use mathlib.Core.Path.{refl}
use Rattle.basis.specs.Choice.{choose}
use Rattle.basis.specs.First.{first_from}
use Rattle.basis.specs.Flags.{flagged}
use Rattle.wire.specs.Commands.{standards, extendeds, group_command_of}
use Rattle.wire.specs.Kinds.{kind_of}
use Rattle.wire.specs.Reading.{read_of}
use Rattle.links.specs.Name.{meant, place_of}
use Rattle.links.specs.Record.{start_of}
use Rattle.links.specs.Search.{stop_of}
use Rattle.links.specs.Mark.{up_to_mark}
use Rattle.links.specs.Write.{written_if_there}
use Rattle.reply.specs.Records.{records_from}
use Rattle.module.specs.Deed.{limited}
use Rattle.shared.specs.Standard.{flags_told}
use Rattle.shared.specs.Extended.{property_deed, properties_deed, record_deed, database_deed}
use Rattle.dimmer.specs.Load.{status_entry, percent_entry, load_entry}
use Rattle.load.specs.Table.{properties_entry}
use Rattle.dimmer.specs.Properties.{ramp_entry, property_entry}
use Rattle.outlet.specs.Load.{full_of, bit_of, bottom_entry, second_entry}
use Rattle.outlet.specs.Load as outlet-load
use Rattle.outlet.specs.Properties as outlet-properties
use Rattle.outlet.specs.Groups.{socket_group}
use Rattle.decide.specs.Decide.{direct_plan}
use Rattle.decide.specs.Ruling.{ruling_by}
use Rattle.device.specs.Run.{run_of}
use Rattle.promises.specs.Bench.{with_level, with_ramp, fresh, us, linked, stranger, zeros}
use Rattle.promises.specs.Bench.{first_record, other_record, memory, direct, long, cleanup, broadcast, reply, room}
use Rattle.promises.specs.Table.{AllRight}
use Rattle.promises.specs.Examples.{head, database, last, examples}
use Rattle.promises.specs.Refusals.{ping, refusals}
use Rattle.promises.specs.Outlets.{outlet, switched, record_of, to_top_off, to_bottom, to_neither, group_1}
use Rattle.promises.specs.Outlets.{get, got, id, mute, answered, takes, refuses, outlets}
use Rattle.promises.specs.Hops.{flagged_by, shown_by, id_by, each_type, hop_examples}
use Rattle.promises.specs.Sequence.{calls, OneAfterTheOther}

pub examples_right : AllRight examples
unfolding choose first_from flagged standards extendeds group_command_of kind_of read_of meant place_of start_of stop_of written_if_there records_from
    up_to_mark status_entry load_entry flags_told percent_entry limited property_deed properties_deed ramp_entry property_entry properties_entry record_deed
    database_deed direct_plan ruling_by with_level with_ramp fresh us linked stranger zeros first_record other_record memory direct
    long cleanup broadcast reply room head database last examples
examples_right = refl

pub refusals_right : AllRight refusals
unfolding choose first_from flagged standards extendeds group_command_of kind_of read_of meant place_of start_of stop_of written_if_there records_from
    up_to_mark status_entry load_entry flags_told percent_entry limited property_deed properties_deed ramp_entry property_entry properties_entry record_deed
    database_deed direct_plan ruling_by with_level with_ramp fresh us linked stranger zeros first_record other_record memory direct
    long cleanup broadcast reply room ping refusals
refusals_right = refl

pub one_after_the_other : OneAfterTheOther
unfolding choose first_from standards kind_of read_of start_of stop_of status_entry percent_entry load_entry direct_plan ruling_by run_of with_level with_ramp
    fresh us linked zeros first_record memory direct reply room calls
one_after_the_other = refl

pub outlets_right : AllRight outlets
unfolding choose first_from flagged standards extendeds group_command_of kind_of read_of meant place_of start_of stop_of written_if_there records_from up_to_mark
    status_entry load_entry outlet-load.status_entry outlet-load.load_entry flags_told limited bottom_entry second_entry full_of bit_of outlet-properties.property_entry
    properties_entry property_deed properties_deed record_deed database_deed socket_group direct_plan ruling_by fresh us linked
    stranger zeros first_record other_record memory direct long cleanup broadcast reply room head database outlet switched record_of
    to_top_off to_bottom to_neither group_1 get got id mute answered takes refuses outlets
outlets_right = refl

pub hops_right : AllRight hop_examples
unfolding choose first_from standards extendeds group_command_of kind_of read_of start_of stop_of percent_entry load_entry property_entry properties_entry direct_plan
    ruling_by with_level fresh us linked stranger zeros first_record memory reply room flagged_by shown_by id_by each_type hop_examples
hops_right = refl

-- The whole of a full link memory is the longest reply: the checker computes its length.
use Prim.Native.Nat.{ℕ, zero, suc}
use mathlib.Core.Path.{refl}
use mathlib.Core.List.{List, [], ◌∷◌, ◌++◌}
use Rattle.basis.specs.Choice.{choose}
use Rattle.basis.specs.First.{first_from}
use Rattle.wire.specs.Commands.{extendeds}
use Rattle.wire.specs.Kinds.{kind_of}
use Rattle.wire.specs.Reading.{read_of}
use Rattle.links.specs.Name.{meant, place_of}
use Rattle.links.specs.Record.{start_of}
use Rattle.links.specs.Search.{stop_of}
use Rattle.links.specs.Mark.{up_to_mark}
use Rattle.reply.specs.Records.{records_from}
use Rattle.shared.specs.Extended.{record_deed, database_deed}
use Rattle.decide.specs.Decide.{direct_plan}
use Rattle.decide.specs.Ruling.{ruling_by}
use Rattle.promises.specs.Bench.{fresh, us, linked, zeros, first_record, long}
use Rattle.promises.specs.Room.{Reached}

-- the linked sender's record, n times
unfoldable full : ℕ → List ℕ
full zero = []
full (suc n) = first_record ++ full n

pub reached : Reached
unfolding choose first_from extendeds kind_of read_of meant place_of start_of stop_of records_from up_to_mark record_deed database_deed direct_plan ruling_by
    fresh us linked zeros first_record long full
reached =
    record {
      device = fresh;
      links = full 256;
      message = long linked 0x2f 0x00 (0x00 ∷ 0x00 ∷ 0x0f ∷ 0xff ∷ zeros 10);
      fit = refl;
      long = refl;
    }

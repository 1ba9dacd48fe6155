-- What is left to lay, behind what is laid, gives the whole; the first message keeps its head.
use Prim.Native.Nat.{◌-◌, ◌+◌, ◌*◌}
use mathlib.Core.Path.{◌≡◌}
use mathlib.Core.List.{◌++◌}
use lib.ListN.{take, drop}
use Rattle.basis.specs.Laid.{laid}
use Rattle.reply.specs.Message.{data_head, head_of}
use Rattle.reply.specs.Records.{records_from}
use Rattle.reply.proofs.records.put_records.Given as goal

abbrev pub invariant-loop-i : goal.invariant-loop-i
invariant-loop-i l =
    let g = l.fn in
    record {
      head : take 9 l.room ≡ head_of g.own (data_head 0x2f g.head);
      whole :
          take (23 * l.i) l.room ++ laid (records_from g.own g.head.to g.head.hops g.asked.data1 l.links (l.n - l.i) (g.asked.first + l.i)) (drop (23 * l.i) l.room)
          ≡ laid (records_from g.own g.head.to g.head.hops g.asked.data1 l.links l.n g.asked.first) g.room;
    }

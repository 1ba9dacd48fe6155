-- A room that holds the messages holds the reply, and the other way round.
use Prim.Native.Nat.{ℕ}
use mathlib.Core.Path.{◌≡◌, ◌∙◌, ap}
use mathlib.Core.List.{List, ◌++◌}
use native.Mathlib.Omega.{arith}
use Rattle.basis.specs.Laid.{laid}
use Rattle.basis.proofs.Laid.{behind}
use Rattle.reply.specs.Message.{head_of}
use Rattle.reply.specs.Records.{records_from, count_sent, sent_records}
use Rattle.reply.proofs.Measured.{long, enough, short, whole}
use Rattle.reply.proofs.Upward.{length_records}
use Rattle.reply.proofs.send.send_records.Goals as goal

-- A room that holds the messages holds the reply, and the other way round.

pub returns-then-room-n : goal.returns-then-room-n
returns-then-room-n c =
    let g = c.args in
    let l = g.links.now in
    let reply = head_of g.own g.head ++ sent_records g.own g.head.to g.head.hops g.asked.data1 l g.asked.first g.asked.most in
    short reply g.room.now (omega (arith, c.count-n.ensures, long g.own g.head g.asked.data1 l g.asked.first g.asked.most))

pub returns-then-room-length : goal.returns-then-room-length
returns-then-room-length c =
    let g = c.args in
    let l = g.links.now in
    let reply = head_of g.own g.head ++ sent_records g.own g.head.to g.head.hops g.asked.data1 l g.asked.first g.asked.most in
    short reply g.room.now (omega (arith, c.count-n.ensures, long g.own g.head g.asked.data1 l g.asked.first g.asked.most))

pub returns : goal.returns
returns c =
    let g = c.args in
    let l = g.links.now in
    let room = g.room.now in
    let h = head_of g.own g.head in
    let n = c.count-n.result in
    let is : n ≡ count_sent l g.asked.first g.asked.most = c.count-n.ensures in
    let more : List ℕ = records_from g.own g.head.to g.head.hops g.asked.data1 l n g.asked.first in
    let all = long g.own g.head g.asked.data1 l g.asked.first g.asked.most in
    let some = length_records g.own g.head.to g.head.hops g.asked.data1 l n g.asked.first in
    let first = rw c.message.ensures at c.lay.ensures in
    let laid-there = behind room _ _ h more (omega (arith, some)) first c.put_records.ensures in
    let whole-reply = laid-there ∙ ap (λ (x : ℕ). laid (h ++ records_from g.own g.head.to g.head.hops g.asked.data1 l x g.asked.first) room) is in
    whole (h ++ sent_records g.own g.head.to g.head.hops g.asked.data1 l g.asked.first g.asked.most) room _ _ (omega (arith, is, all)) (omega (arith, is, all)) whole-reply

pub put_records-requires-clause-n_bound : goal.put_records-requires-clause-n_bound
put_records-requires-clause-n_bound c =
    let g = c.args in
    omega (arith, c.count-n.ensures, enough g.links.now g.asked.first g.asked.most)

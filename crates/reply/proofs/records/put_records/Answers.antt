use Prim.Native.Nat.{ℕ, pred, ◌-◌, ◌+◌, ◌*◌}
use mathlib.Core.Path.{◌≡◌, sym, ◌∙◌, ap}
use mathlib.Core.List.{List, [], ◌++◌}
use native.Mathlib.Omega.{arith}
use lib.ListN.{take, drop, take-append-drop}
use Rattle.std.proofs.lemmas.Slice.{take-put_mid_below}
use Rattle.basis.specs.Laid.{laid}
use Rattle.basis.proofs.Laid.{fits, turn, further}
use Rattle.reply.specs.Message.{head_of}
use Rattle.reply.specs.Records.{record_message, records_from}
use Rattle.reply.proofs.Upward.{none, more, length_records}
use Rattle.reply.proofs.records.put_records.Goals as goal

pub returns-then-n-eq0 : goal.returns-then-n-eq0
returns-then-n-eq0 c =
    let g = c.args in
    let z : g.n ≡ 0 = omega arith in
    rw (z, none g.own g.head.to g.head.hops g.asked.data1 g.links.now g.asked.first) (sym (fits g.room.now [] (omega arith)))

pub loop-i-init : goal.loop-i-init
loop-i-init c =
    let g = c.args in
    let l = g.links.now in
    let room = g.room.now in
    let m : List ℕ = record_message g.own g.head.to g.head.hops g.asked.data1 l g.asked.first in
    let R : List ℕ = records_from g.own g.head.to g.head.hops g.asked.data1 l (g.n - 1) (g.asked.first + 1) in
    let y : pred g.n ≡ g.n - 1 = omega arith in
    let all : records_from g.own g.head.to g.head.hops g.asked.data1 l g.n g.asked.first ≡ m ++ R = rw (more g.own g.head.to g.head.hops g.asked.data1 l g.n g.asked.first (omega arith), y) in
    let head = c.message-each.ensures ∙ ap (head_of g.own) c.of_data.ensures in
    let first = rw (head, c.record_data-data.ensures) at c.put_extended.ensures ∙ fits room m (omega arith) in
    record { head = ap (take 9) first; whole = further 0 room _ m R (omega arith) first ∙ ap (λ (v : List ℕ). laid v room) (sym all) }

pub loop-i-preserved : goal.loop-i-preserved
loop-i-preserved c =
    let g = c.args in
    let t = c.loop-i in
    let l = g.links.now in
    let first = g.asked.first in
    let m : List ℕ = record_message g.own g.head.to g.head.hops g.asked.data1 l (first + t.i) in
    let R : List ℕ = records_from g.own g.head.to g.head.hops g.asked.data1 l (g.n - (t.i + 1)) (first + (t.i + 1)) in
    let x : pred (g.n - t.i) ≡ g.n - (t.i + 1) = omega arith in
    let y : first + t.i + 1 ≡ first + (t.i + 1) = omega arith in
    let z : 23 * (t.i + 1) ≡ 23 * t.i + 23 = omega arith in
    let next : records_from g.own g.head.to g.head.hops g.asked.data1 l (g.n - t.i) (first + t.i) ≡ m ++ R = rw (more g.own g.head.to g.head.hops g.asked.data1 l (g.n - t.i) (first + t.i) (omega arith), x, y) in
    let head = c.laid_head-each.ensures ∙ t.invariant.head in
    let q = rw (head, c.record_data-data-in-loop-i.ensures) at c.put_extended-in-loop-i.ensures in
    record {
      head = take-put_mid_below (23 * t.i) _ t.room _ 9 (omega arith) (omega arith) ∙ t.invariant.head;
      whole =
          rw z (turn (23 * t.i) t.room c.put_extended-in-loop-i.new.room m R (omega arith) q)
          ∙ ap (λ (v : List ℕ). take (23 * t.i) t.room ++ laid v (drop (23 * t.i) t.room)) (sym next)
          ∙ t.invariant.whole;
    }

pub returns : goal.returns
returns c =
    let g = c.args in
    let t = c.loop-i in
    let l = g.links.now in
    let x : g.n - t.i ≡ 0 = omega arith in
    let left : records_from g.own g.head.to g.head.hops g.asked.data1 l (g.n - t.i) (g.asked.first + t.i) ≡ [] = rw x (none g.own g.head.to g.head.hops g.asked.data1 l (g.asked.first + t.i)) in
    sym (take-append-drop (23 * t.i) t.room)
    ∙ ap (λ (v : List ℕ). take (23 * t.i) t.room ++ laid v (drop (23 * t.i) t.room)) (sym left)
    ∙ t.invariant.whole
    ∙ sym (fits g.room.now _ (omega (arith, length_records g.own g.head.to g.head.hops g.asked.data1 l g.n g.asked.first)))

-- Read after read, a desk that is open has less than a frame in hand, so that the next read has room.
use Rattle.std.proofs.Common.{◌≡◌, length}
use Rattle.desk.specs.Passed.{ReadPromise}
use Rattle.desk.proofs.answer.Lent.serve_until_end.Given as goal

abbrev pub invariant-loop : goal.invariant-loop
invariant-loop _ l =
    let lent = l.initial.self in
    record {
      same_held : length l.held ≡ length l.initial.held;
      read : ReadPromise l.initial.p lent.links.now lent.room.now l.initial.held l.p l.self.links.now l.held;
    }

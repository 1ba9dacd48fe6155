-- The turns that are left lead to what the class promises.
use lib.ListN.{length}
use Rattle.class.specs.Class.{class_of}
use Rattle.embed_class.specs.Row.{row_of}
use Rattle.embed_class.proofs.Standing.{Awaits}
use Rattle.embed_class.proofs.serve.serve_row.Given as goal

abbrev pub invariant-loop-seat : goal.invariant-loop-seat
invariant-loop-seat l =
    Awaits (class_of (row_of l.count l.initial.images) l.initial.links l.message l.initial.room) l.heard (length l.initial.links) l.count l.t l.initial.images
    l.images l.links l.room l.seat l.answer

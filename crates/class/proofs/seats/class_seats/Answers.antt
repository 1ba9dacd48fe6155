use mathlib.Core.Path.{refl}
use borrow.Author.Tests.{lt-ltb, le-ltb}
use Rattle.basis.proofs.Choice.{by}
use Rattle.basis.proofs.Tests.{clash}
use Rattle.class.specs.Class.{ClassStep, ClassComes}
use Rattle.class.proofs.seats.class_seats.Goals as goal

pub returns-then-n-gt16 : goal.returns-then-n-gt16
returns-then-n-gt16 c =
    let g = c.args in
    by (λ (t : ClassStep). ClassComes t c.silent.result g.seats g.links.now g.room.now) _
    (λ q.
    rw c.silent.ensures
    (record { number = refl; outcome = refl; sent = refl; read = refl; whom = refl; seats = refl; memory = refl; room_after = refl }))
    (λ q. clash (lt-ltb 16 g.n c.if-n-gt16.true) q)

pub returns : goal.returns
returns c =
    let lent = c.lend_seats in
    by (λ (t : ClassStep). ClassComes t lent.result.answer lent.result.seats lent.new.links lent.new.room) _
    (λ q. clash q (le-ltb 16 c.args.n c.if-n-gt16.false))
    (λ q. lent.ensures)

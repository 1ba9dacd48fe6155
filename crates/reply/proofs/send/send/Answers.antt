use mathlib.Core.Path.{refl}
use mathlib.Core.List.{[]}
use native.Mathlib.Omega.{arith}
use Rattle.reply.proofs.Measured.{whole}
use Rattle.reply.proofs.send.send.Goals as goal

pub returns-in-Nothing : goal.returns-in-Nothing
returns-in-Nothing c = rw c.in-Nothing.is (whole [] c.args.room.now 0 _ (omega arith) refl refl)

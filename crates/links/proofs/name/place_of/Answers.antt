use mathlib.Core.Path.{sym}
use native.Mathlib.Omega.{arith}
use Rattle.links.proofs.Named.{legal, illegal}
use Rattle.links.proofs.name.place_of.Goals as goal

-- past the end of the names, between two of them, a record, behind the memory's end

pub returns-then-name-gt4095 : goal.returns-then-name-gt4095
returns-then-name-gt4095 c =
    let g = c.args in
    sym (illegal g.records g.address (λ k h e. omega (arith, c.meant-name.ensures)))

pub returns-then-below-ne0 : goal.returns-then-below-ne0
returns-then-below-ne0 c =
    let g = c.args in
    sym (illegal g.records g.address (λ k h e. omega (arith, c.meant-name.ensures)))

pub returns-then-k-records : goal.returns-then-k-records
returns-then-k-records c =
    let g = c.args in
    sym (legal g.records g.address _ c.if-k-records.true (omega (arith, c.meant-name.ensures)))

pub returns-else-k-records : goal.returns-else-k-records
returns-else-k-records c =
    let g = c.args in
    sym (illegal g.records g.address (λ k h e. omega (arith, c.meant-name.ensures)))

-- A standard message has no data bytes: 00 stands for each.
use Prim.Native.Nat.{ℕ, ◌-◌}
use mathlib.Core.Path.{◌≡◌, sym, ◌∙◌, ap}
use native.Mathlib.Omega.{arith}
use lib.ListN.{length, drop}
use Rattle.basis.proofs.Spelled.{spelled_from, blank}
use Rattle.wire.proofs.Whole.{nine, extended}
use Rattle.wire.proofs.read.data_of.Goals as goal

pub returns-in-Some : goal.returns-in-Some
returns-in-Some c =
    let s = c.args.message.now in
    let last = c.in-Some.ensures.cases in
    let long : length s ≡ 23 = extended s c.requires last.0 in
    let place : length s - 14 ≡ 9 = omega (arith, long) in
    last.1.same ∙ ap (λ (n : ℕ). drop n s) place ∙ sym (spelled_from 14 9 s (omega (arith, long)))

pub returns-in-None : goal.returns-in-None
returns-in-None c =
    let s = c.args.message.now in
    let few = c.in-None.ensures.cases in
    sym (blank 14 9 s (omega (arith, nine s c.requires (λ e. omega (arith, e, few)))))

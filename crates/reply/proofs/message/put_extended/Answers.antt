use Prim.Native.Nat.{ℕ, ◌-◌}
use mathlib.Core.Path.{◌≡◌, sym, ◌∙◌, subst}
use mathlib.Core.List.{◌++◌}
use native.Mathlib.Omega.{arith}
use lib.ListN.{length, length-append}
use borrow.Rule.Slice.PartMut.{put_mid, mid_of}
use Rattle.basis.specs.Laid.{laid, laid_if_fits}
use Rattle.basis.proofs.Laid.{fits, left, behind}
use Rattle.reply.proofs.message.put_extended.Goals as goal

pub returns-then-room-lt23 : goal.returns-then-room-lt23
returns-then-room-lt23 c = left _ _ (omega (arith, c.if-room-lt23.true, length-append c.args.head.now c.args.data.now))

pub returns : goal.returns
returns c =
    let g = c.args in
    let head = g.head.now in
    let more = g.data.now in
    let room = g.room.now in
    let xs = c.lay.new.room in
    let ys = c.lay-2.new.room in
    let nine : length head ≡ 9 = omega arith in
    let fourteen : length more ≡ 14 = omega arith in
    let there = subst (λ (n : ℕ). ys ≡ laid_if_fits (mid_of n (length xs - n) xs) more) (sym nine) c.lay-2.ensures in
    let both = behind room xs ys head more (omega arith) c.lay.ensures there in
    subst (λ (n : ℕ). put_mid n (length xs - n) xs ys ≡ laid (head ++ more) room) nine both
    ∙ sym (fits room (head ++ more) (omega (arith, length-append head more)))

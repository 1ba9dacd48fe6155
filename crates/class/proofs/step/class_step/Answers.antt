use Prim.Native.Nat.{ℕ, ◌<◌}
use mathlib.Core.Path.{subst}
use mathlib.Core.List.{List}
use native.Mathlib.Omega.{arith}
use lib.ListN.{length, set, get_or}
use Rattle.std.proofs.lemmas.List.{get_or_default}
use Rattle.wire.specs.declared.kind.Message.{Message}
use Rattle.module.specs.declared.state.Module.{Module}
use Rattle.row.specs.declared.progress.Progress.{Progress}
use Rattle.class.specs.Seat.{nobody, seat_at}
use Rattle.class.specs.Class.{ClassStep, class_of}
use Rattle.class.specs.Turns.{Turn, turn_of, Took}
use Rattle.class.proofs.Runs.{Runs, next, over, counted}
use Rattle.class.proofs.Rounds.{opens}
use Rattle.class.proofs.step.class_step.Goals as goal

module _ (target : ClassStep) (heard : Message) (bytes : ℕ) (xs : List Module) (t : Progress) (ls rs : List ℕ) (inside : t.seat < length xs) where
  -- a turn that was taken leaves what the definition says
  taken : (d m : Module) (p : Progress) (l r : List ℕ) (k : ℕ) → Took (turn_of (get_or xs t.seat d) t heard ls rs) p m l r
      → (let x : Turn = turn_of (seat_at xs t.seat) t heard ls rs in Runs target heard bytes k (set xs t.seat x.next) x.progress x.links x.room)
      → Runs target heard bytes k (set xs t.seat m) p l r
  taken d m p l r k took runs =
      let e = subst (λ (n : Module). Took (turn_of n t heard ls rs) p m l r) (get_or_default xs t.seat d nobody inside) took in
      rw (e.went, e.stays, e.memory, e.room_after) runs

pub tend-t-requires : goal.tend-t-requires
tend-t-requires c =
    let g = c.args in
    let now = c.loop-t in
    let turn = next (class_of g.row.now g.links.now g.message.now g.room.now) c.hear-heard.result (length g.links.now) _ now.row now.t now.links now.room now.invariant.runs c.loop-t-test.true in
    rw now.auto.links turn.ready

pub loop-t-smaller : goal.loop-t-smaller
loop-t-smaller c =
    let g = c.args in
    let now = c.loop-t in
    let target : ClassStep = class_of g.row.now g.links.now g.message.now g.room.now in
    let most : ℕ = (opens g.row.now g.links.now g.message.now g.room.now).left in
    let heard = c.hear-heard.result in
    let bytes : ℕ = length g.links.now in
    let turn = next target heard bytes _ now.row now.t now.links now.room now.invariant.runs c.loop-t-test.true in
    let after = taken target heard bytes now.row now.t now.links now.room c.loop-t-test.true _ _ _ _ _ turn.left c.tend-t.ensures turn.runs in
    let here = counted target heard bytes most _ now.row now.t now.links now.room now.invariant.fewer now.invariant.runs in
    let there = counted target heard bytes most turn.left _ _ _ _ (omega (arith, turn.fewer, now.invariant.fewer)) after in
    omega (arith, here, there, turn.fewer)

pub loop-t-preserved : goal.loop-t-preserved
loop-t-preserved c =
    let g = c.args in
    let now = c.loop-t in
    let target : ClassStep = class_of g.row.now g.links.now g.message.now g.room.now in
    let heard = c.hear-heard.result in
    let bytes : ℕ = length g.links.now in
    let turn = next target heard bytes _ now.row now.t now.links now.room now.invariant.runs c.loop-t-test.true in
    record {
      left = turn.left;
      fewer = omega (arith, turn.fewer, now.invariant.fewer);
      runs = taken target heard bytes now.row now.t now.links now.room c.loop-t-test.true _ _ _ _ _ turn.left c.tend-t.ensures turn.runs;
    }

pub returns : goal.returns
returns c =
    let now = c.loop-t in
    over _ c.hear-heard.result _ _ now.row now.t now.links now.room now.invariant.runs c.loop-t-test.false

-- Room enough.
use Prim.Native.Nat.{ℕ, ◌≤◌, ◌<◌}
use mathlib.Core.Path.{◌≡◌, refl, sym}
use mathlib.Core.Bool.{Bool, true, false, ◌||◌}
use mathlib.Core.List.{List}
use native.Mathlib.Omega.{arith}
use lib.Dec.{eqb, leb, ltb}
use lib.ListN.{length}
use borrow.Author.Tests.{ltb-true, leb-true, lt-ltb}
use Rattle.basis.specs.Choice.{choose}
use Rattle.basis.specs.Numbers.{within}
use Rattle.basis.proofs.Tests.{both, clash}
use Rattle.basis.proofs.Choice.{by}
use Rattle.wire.specs.declared.address.Address.{Address}
use Rattle.wire.specs.declared.request.Request.{Request}
use Rattle.links.specs.Record.{is_fit}
use Rattle.reply.specs.declared.due.ReplyType.{ReplyType}
use Rattle.reply.specs.declared.due.Due.{Due}
use Rattle.reply.specs.Reply.{reply_of}
use Rattle.reply.proofs.Measured.{long, enough}
use Rattle.results.specs.declared.Outcome.{Outcome}
use Rattle.results.specs.Number.{number_of}
use Rattle.decide.specs.declared.rule.Ruling.{Ruling}
use Rattle.decide.specs.Ruling.{heard_by, read_ruling, ruling_by, ruling_of}
use Rattle.device.specs.Step.{step_of}
use Rattle.promises.specs.Room.{due_to, DecidesFive, AlwaysEnough}
use Rattle.promises.proofs.Demand1.{Fair, done, mute, stranger, unknown, ruling_fair}

-- no plan is 5
never_five : (o : Outcome) → within 1 4 (number_of o) || eqb (number_of o) 8 ≡ true → number_of o ≡ 5 → ⊥
never_five Outcome.Done q e = omega arith
never_five Outcome.BadLength q e = omega arith
never_five Outcome.BadMemory q e = omega arith
never_five Outcome.Foreign q e = omega arith
never_five Outcome.BadSum q e = omega arith
never_five Outcome.NoRoom q e = clash refl (sym q)
never_five Outcome.NotLinked q e = omega arith
never_five Outcome.Unlisted q e = omega arith
never_five Outcome.Unconcerned q e = omega arith

pub decides_five : DecidesFive
unfolding choose
decides_five m l s room = (go (ltb (length room) (length (due_to m l s))) refl, λ h. rw (lt-ltb (length room) (length (due_to m l s)) h))
  where
    not-planned : {type : ReplyType} {q : Request} (r : Ruling) → Fair type q r.plan → number_of r.plan.outcome ≡ 5 → ⊥
    not-planned r (done e) f = omega arith
    not-planned r (mute o q e) f = never_five o q (rw e at f)
    not-planned r (stranger e) f = let g : ◌≡◌ {A = ℕ} 6 5 = rw e at f in omega arith
    not-planned r (unknown e) f = let g : ◌≡◌ {A = ℕ} 7 5 = rw e at f in omega arith

    go : (t : Bool) → ltb (length room) (length (due_to m l s)) ≡ t → number_of (step_of m l s room).outcome ≡ 5 → length room < length (due_to m l s)
    go true q e = ltb-true _ _ q
    go false q e = absurd (not-planned (ruling_of m l s) (ruling_fair m l s) (rw q at e))

-- of a fit memory no reply is longer
longest : (own : Address) (l : List ℕ) (due : Due) → is_fit l ≡ true → length (reply_of own l due) ≤ 5897
longest own l Due.Nothing h = omega arith
longest own l (Due.Alone x) h = omega arith
longest own l (Due.WithId x id revision) h = omega arith
longest own l (Due.WithProperties x d) h = omega arith
longest own l (Due.WithRecords x a) h =
    let f = (both (within 1 2048 (length l)) _ h).0 in
    let g = leb-true (length l) 2048 (both (leb 1 (length l)) (leb (length l) 2048) f).1 in
    omega (arith, long own x a.data1 l a.first a.most, enough l a.first a.most)

pub always_enough : AlwaysEnough
unfolding ruling_by
always_enough m l s =
    by (λ (r : Ruling). length (reply_of m.identity.address l r.plan.due) ≤ 5897) (is_fit l)
    (λ h. longest m.identity.address l (read_ruling m l (heard_by m s).«data» (heard_by m s).reading).plan.due h)
    (λ h. omega arith)

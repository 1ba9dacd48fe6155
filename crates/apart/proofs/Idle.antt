-- A module that a message is not for is left alone by it.
use Prim.Native.Nat.{ℕ}
use mathlib.Core.Path.{◌≡◌, refl}
use mathlib.Core.Bool.{Bool, true, false, ◌||◌}
use mathlib.Core.List.{List}
use Rattle.basis.proofs.Choice.{either, by}
use Rattle.basis.proofs.Tests.{clash, neither}
use Rattle.wire.specs.declared.address.Address.{Address}
use Rattle.wire.specs.declared.kind.Message.{Message}
use Rattle.wire.specs.Bytes.{to_of, equals, is_whole}
use Rattle.wire.specs.Kinds.{is_direct, is_cleanup, is_broadcast, is_unheard, is_foreign}
use Rattle.wire.specs.Reading.{read_of}
use Rattle.links.specs.Record.{is_fit}
use Rattle.module.specs.declared.state.Module.{Module}
use Rattle.decide.specs.declared.rule.Ruling.{Ruling}
use Rattle.decide.specs.Ruling.{read_ruling, ruling_by, ruling_of}
use Rattle.device.specs.Step.{Step, step_of}
use Rattle.row.proofs.Readings.{some_kind}
use Rattle.apart.specs.Lesson.{is_for}
use Rattle.promises.proofs.Stranger.{Idle}

-- it is foreign then, if it is whole
foreign : (a : Address) (s : List ℕ) → is_for a s ≡ false → is_whole s ≡ true → is_foreign s a ≡ true
foreign a s h w = go (is_unheard s) refl
  where
    astray : is_unheard s ≡ false → is_direct s || is_cleanup s ≡ true → equals (to_of s) a ≡ false → is_foreign s a ≡ true
    astray u k e = rw (u, k, e)

    kind : is_unheard s ≡ false → is_broadcast s ≡ false → (d : Bool) → is_direct s ≡ d → is_direct s || is_cleanup s ≡ true
    kind u b true q = rw q
    kind u b false q = rw (q, some_kind s u b q)

    go : (u : Bool) → is_unheard s ≡ u → is_foreign s a ≡ true
    go true u = rw u
    go false u =
        let p : is_broadcast s || equals (to_of s) a ≡ false = rw (w, u) at h in
        let q = neither (is_broadcast s) (equals (to_of s) a) p in
        astray u (kind u q.0 (is_direct s) refl) q.1

module _ (m : Module) (l s room : List ℕ) (h : is_for m.identity.address s ≡ false) where
  abbrev Still : Message → Type 0
  Still x = Idle (read_ruling m l x.«data» x.reading).plan

  read_still : Still (read_of s m.identity.address)
  unfolding read_of
  read_still =
      by Still (is_whole s)
      (λ w. by Still (is_foreign s m.identity.address) (λ f. (refl, refl)) (λ f. clash (foreign m.identity.address s h w) f))
      (λ w. (refl, refl))

  nothing_changes : Idle (ruling_of m l s).plan
  unfolding ruling_by
  nothing_changes = either (λ (r : Ruling). Idle r.plan) (is_fit l) read_still (refl, refl)

  pub idle_module : (step_of m l s room).next ≡ m
  idle_module = either (λ (t : Step). t.next ≡ m) _ refl (rw nothing_changes.0)

  pub idle_links : (step_of m l s room).links ≡ l
  idle_links = either (λ (t : Step). t.links ≡ l) _ refl (rw nothing_changes.1)

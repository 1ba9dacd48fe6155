-- What comes of every message to every class.
use Prim.Native.Nat.{ℕ, zero, suc, ◌+◌, ◌*◌, ◌/◌, ◌≤◌, ◌<◌}
use mathlib.Core.Path.{◌≡◌, refl, sym, ◌∙◌, ap}
use mathlib.Core.Bool.{Bool, true, false, ◌||◌}
use mathlib.Core.List.{List}
use native.Mathlib.Omega.{arith}
use lib.Dec.{eqb, ltb}
use lib.ListN.{length, set}
use lib.Seq.{set-get_or}
use borrow.Author.Tests.{ltb-true, eqb-true, eq-eqb}
use borrow.Rule.Slice.PartMut.{put_same}
use Rattle.basis.specs.Choice.{choose}
use Rattle.basis.specs.Numbers.{within}
use Rattle.basis.proofs.Choice.{by}
use Rattle.basis.proofs.Tests.{clash, neither}
use Rattle.wire.specs.Bytes.{to_of, is_whole}
use Rattle.wire.specs.Kinds.{is_broadcast, is_unheard}
use Rattle.results.specs.declared.Outcome.{Outcome}
use Rattle.results.specs.Number.{number_of}
use Rattle.module.specs.declared.state.Module.{Module}
use Rattle.device.specs.Step.{Step, step_of}
use Rattle.device.specs.Run.{Call}
use Rattle.row.specs.declared.outcome.ClassOutcome.{ClassOutcome}
use Rattle.row.specs.Number.{class_number_of}
use Rattle.row.specs.Row.{is_row_fit, seat_named, is_doubled}
use Rattle.class.specs.Seat.{nobody, seat_at, name_at, share_at, with_share}
use Rattle.class.specs.Class.{refused_by, seat_step, served_at, addressed_to, Heard, heard_at, heard_from, broadcast_to, class_of}
use Rattle.row.proofs.Fit.{share_there}
use Rattle.row.proofs.Named.{same_address, found}
use Rattle.promises.specs.Demand1.{Unaltered, Fate, carried-out as done, silent as quiet, not-linked as unlinked, not_listed as unlisted}
use Rattle.promises.proofs.Demand1.{fate as always-fated}
use Rattle.apart.specs.Lesson.{Class, tell, leaves}
use Rattle.apart.specs.Fate.{is_silent, ClassFate, carried-out, silent, not-linked, not_listed, AlwaysClassFated}
use Rattle.apart.proofs.Quiet.{same_room}
use Rattle.apart.proofs.Round.{Ample, heeded, still-ample}

-- a step that is refused leaves the row and link memory
unaltered : (m : Module) (l s room : List ℕ) → eqb (number_of (step_of m l s room).outcome) 0 ≡ false → Unaltered m l (step_of m l s room)
unaltered m l s room h = go (always-fated m l s room)
  where
    go : Fate m l s room (step_of m l s room) → Unaltered m l (step_of m l s room)
    go (done e) = clash (eq-eqb (number_of (step_of m l s room).outcome) 0 e) h
    go (quiet e u x) = u
    go (unlinked e u x) = u
    go (unlisted e u x) = u

module _ (w : ℕ) (row : List Module) (l : List ℕ) (i : ℕ) where
  same_row : (m : Module) → m ≡ seat_at row i → set row i m ≡ row
  same_row m e = ap (set row i) e ∙ set-get_or row i nobody

  same_links : (y : List ℕ) → y ≡ share_at w i l → with_share w i y l ≡ l
  same_links y e = ap (λ (z : List ℕ). with_share w i z l) e ∙ put_same (i * w) w l

-- a broadcast that nobody acts on
module _ (w : ℕ) (s : List ℕ) (b : is_broadcast s ≡ true) (n : ℕ) where
  record Still (x r : Heard) : Type 0 where
    pub row : r.row ≡ x.row
    pub links : r.links ≡ x.links
    pub room : r.room ≡ x.room

  one_still : (i : ℕ) (x r : Heard) → (heard_at w s i x).acted ≡ false → Still (heard_at w s i x) r → Still x r
  one_still i x r h later =
      let t : Step = seat_step w x.row x.links s x.room i in
      let idle = unaltered (seat_at x.row i) (share_at w i x.links) s x.room (neither x.acted (eqb (number_of t.outcome) 0) h).1 in
      record {
        row = later.row ∙ same_row w x.row x.links i t.next idle.same-module;
        links = later.links ∙ same_links w x.row x.links i t.links idle.same_links;
        room = later.room ∙ same_room (seat_at x.row i) (share_at w i x.links) s x.room b;
      }

  all_still : (k i : ℕ) (x : Heard) → Ample w s b n x → i + k ≤ n → (heard_from w s k i x).acted ≡ false → Still x (heard_from w s k i x)
  unfolding heard_from
  all_still zero i x ample upto h = record { row = refl; links = refl; room = refl }
  all_still (suc k) i x ample upto h =
      let inside : i < n = omega (arith, upto) in
      let there : Ample w s b n (heard_at w s i x) = still-ample w s b n x ample i inside in
      let rest = heeded w s b n k (i + 1) (heard_at w s i x) there (omega (arith, upto)) in
      one_still i x (heard_from w s k (i + 1) (heard_at w s i x)) (neither (heard_at w s i x).acted _ (sym rest.acted ∙ h)).0
      (all_still k (i + 1) (heard_at w s i x) there (omega (arith, upto)) h)

module _ (c : Class) (x : Call) where
  abbrev n : ℕ
  n = length c.row

  abbrev w : ℕ
  w = length c.links / length c.row

  abbrev s : List ℕ
  s = x.message

  refused : (o : ClassOutcome) → is_silent (class_number_of o) ≡ true → ClassFate c x (refused_by o c.row c.links x.room)
  refused o h = silent h (record { stays = refl; reply = refl; room = refl })

  eight_too : (number : ℕ) → within 1 5 number || eqb number 8 ≡ true → is_silent number ≡ true
  eight_too number h = go (within 1 5 number) refl
    where
      go : (b : Bool) → within 1 5 number ≡ b → is_silent number ≡ true
      go true q = rw q
      go false q =
          let e : eqb number 8 ≡ true = rw q at h in
          rw (eqb-true number 8 e)

  module _ (k : ℕ) (inside : k < n) (its : name_at c.row k ≡ to_of s) where
    abbrev own : Step
    own = seat_step w c.row c.links s x.room k

    kept : Unaltered (seat_at c.row k) (share_at w k c.links) own → leaves (served_at w c.row c.links s x.room k) ≡ c
    kept u =
        (λ e. record {
          row = same_row w c.row c.links k own.next u.same-module e;
          links = same_links w c.row c.links k own.links u.same_links e;
        })

    served : Fate (seat_at c.row k) (share_at w k c.links) s x.room own → ClassFate c x (served_at w c.row c.links s x.room k)
    served (done e) = carried-out e
    served (quiet e u y) = silent (eight_too (number_of own.outcome) e) (record { stays = kept u; reply = y.reply; room = y.room_after })
    served (unlinked e u y) = not-linked k inside its e (record { stays = kept u; reply = y.reply; room = y.room_after })
    served (unlisted e u y) = not_listed k inside its e (record { stays = kept u; reply = y.reply; room = y.room_after })

  everybody : is_broadcast s ≡ true → ClassFate c x (broadcast_to w c.row c.links s x.room)
  unfolding choose
  everybody b = go h.acted refl
    where
      start : Heard
      start = record { acted = false; read = 0; row = c.row; links = c.links; room = x.room }

      h : Heard
      h = heard_from w s n 0 start

      go : (a : Bool) → h.acted ≡ a → ClassFate c x (broadcast_to w c.row c.links s x.room)
      go true q = carried-out (rw q)
      go false q =
          let still = all_still w s b n n 0 start (record { seats = refl; shares = λ i l. share_there n (length c.links) i l }) (omega arith) q in
          silent (rw q) (record { stays = λ e. record { row = still.row e; links = still.links e }; reply = refl; room = still.room })

  addressed : ClassFate c x (addressed_to w c.row c.links s x.room)
  addressed =
      by (ClassFate c x) (ltb (seat_named (name_at c.row) n (to_of s)) n)
      (λ q.
      let k : ℕ = seat_named (name_at c.row) n (to_of s) in
      let inside : k < n = ltb-true k n q in
      served k inside (sym (same_address (to_of s) (name_at c.row k) (found (name_at c.row) n (to_of s) inside)))
      (always-fated (seat_at c.row k) (share_at w k c.links) s x.room))
      (λ q. refused ClassOutcome.NoSeat refl)

  fated : ClassFate c x (tell c x)
  unfolding class_of
  fated =
      by (ClassFate c x) (is_row_fit n (length c.links))
      (λ f.
      by (ClassFate c x) (is_doubled (name_at c.row) n) (λ d. refused ClassOutcome.Doubled refl)
      (λ d.
      by (ClassFate c x) (is_whole s)
      (λ h.
      by (ClassFate c x) (is_unheard s) (λ u. refused (ClassOutcome.Single Outcome.Foreign) refl)
      (λ u. by (ClassFate c x) (is_broadcast s) everybody (λ b. addressed)))
      (λ h. refused (ClassOutcome.Single Outcome.BadLength) refl)))
      (λ f. refused ClassOutcome.Unfit refl)

pub class_fate : AlwaysClassFated
class_fate c x = fated c x

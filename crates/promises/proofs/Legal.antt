-- A legal direct command of a linked sender takes its stated effect, and any other is refused with 7.
use Prim.Native.Nat.{ℕ, ◌≤◌}
use mathlib.Core.Path.{◌≡◌, refl, sym, ◌∙◌, ap, subst}
use mathlib.Core.Bool.{true}
use mathlib.Core.List.{List}
use lib.ListN.{length}
use borrow.Author.Tests.{ne_eqb}
use Rattle.basis.specs.Choice.{choose}
use Rattle.wire.specs.declared.command.Command.{Command}
use Rattle.wire.specs.Bytes.{command2_of, data_at, request_of, data_of}
use Rattle.wire.specs.Commands.{standards, extendeds}
use Rattle.wire.specs.Asked.{command_in}
use Rattle.wire.specs.Reading.{well_formed}
use Rattle.wire.proofs.CommandBytes.{short_command, long_command}
use Rattle.wire.proofs.Heard.{parts}
use Rattle.links.specs.Record.{records}
use Rattle.results.specs.declared.Outcome.{Outcome}
use Rattle.results.specs.Number.{number_of}
use Rattle.load.specs.declared.entry.Entry.{Entry}
use Rattle.load.specs.declared.entry.LoadEntry.{LoadEntry}
use Rattle.load.specs.declared.state.Sockets.{Sockets}
use Rattle.load.specs.declared.state.Load.{Load}
use Rattle.load.specs.Answer.{of_kind}
use Rattle.load.specs.Table.{properties_entry}
use Rattle.load.specs.Judged.{Judged, listed, other, left, Leaves}
use Rattle.load.proofs.Carried.{carried}
use Rattle.module.specs.declared.state.Module.{Module}
use Rattle.module.specs.declared.deed.Deed.{Deed}
use Rattle.module.specs.Plan.{deed_plan}
use Rattle.shared.specs.Extended.{property_deed, properties_deed}
use Rattle.dimmer.proofs.Legal as dimmers
use Rattle.outlet.specs.Load.{status_entry, load_entry, bottom_entry, second_entry}
use Rattle.outlet.specs.Properties.{property_entry}
use Rattle.outlet.proofs.Legal as outlets
use Rattle.decide.specs.Dispatch.{entry_by, deed_by, own_deed}
use Rattle.decide.specs.Ruling.{ruling_of}
use Rattle.device.specs.Step.{step_of}
use Rattle.promises.specs.NotHere.{NotHere, on-fast, off-fast, brighten, dim, instant, percent, on-at-ramp, off-at-ramp}
use Rattle.promises.specs.NotHere.{other-status, set-ramp, set-on-level, other-on, other-off}
use Rattle.promises.specs.Legal.{Effect, FromLinked, Taken}
use Rattle.promises.specs.LegalAny.{Own, dimmer, outlet, Brought, done, shows, shown, Legal, shared, own, TakesEffect, ElseSeven, OutletSeven}
use Rattle.promises.proofs.Ruled.{deed_in, ruled_linked}
use Rattle.promises.proofs.Brings.{Brings, brought, numbered_by}
use Rattle.promises.proofs.LegalShared as common
use Rattle.promises.proofs.Leaves.{leaves}

-- by the kind: what its table says, and what it leaves
module _ (s : List ℕ) where
  abbrev answer : Load → Command → LoadEntry Load
  answer load command = entry_by load (request_of s) (data_of s) command

  own_says : (load next : Load) (entry : Entry) → Own s load next entry → answer load (command_in s) ≡ record { load = next; entry = entry }
  own_says _ _ _ (dimmer lamp next entry row) = ap (of_kind Load.Dimmer) (dimmers.says lamp s next entry row)
  own_says _ _ _ (outlet sockets next entry row) = ap (of_kind Load.Outlet) (outlets.says sockets s next entry row)

  own_judged : (load : Load) → Judged (Own s load) (answer load (command_in s)).load (answer load (command_in s)).entry
  own_judged (Load.Dimmer lamp) = carried _ _ Load.Dimmer (dimmer lamp) _ _ (dimmers.judged lamp s)
  own_judged (Load.Outlet sockets) = carried _ _ Load.Outlet (outlet sockets) _ _ (outlets.judged sockets s)

  own_leaves : (load : Load) → Leaves s (λ (command : Command). (answer load command).entry)
  own_leaves (Load.Dimmer lamp) = dimmers.leaves lamp s
  own_leaves (Load.Outlet sockets) = outlets.leaves sockets s

module _ (m : Module) (l s : List ℕ) where
  -- what an answer comes to
  abbrev deed : Load → Entry → Deed
  deed next entry = deed_by m (request_of s) (data_of s) (records l) (command_in s) next entry

  -- a command is listed, or it comes to nothing that is
  pub data Listed (deed : Deed) : Type 0 where
    is-listed : (e : Effect) → Legal m l s e → Listed deed
    is-other : deed ≡ Deed.Unlisted → Listed deed

  as_shared : {deed : Deed} → common.SharedJudged m l s deed → Listed deed
  as_shared (common.listed e x) = is-listed e (shared x)
  as_shared (common.other p) = is-other p

  row_listed : (next : Load) (entry : Entry) → Own s m.load next entry → Listed (deed next entry)
  row_listed next Entry.Done x = is-listed _ (own next Entry.Done x done)
  row_listed next (Entry.Shows v) x = is-listed _ (own next (Entry.Shows v) x (shows v))
  row_listed next (Entry.Shown p) x = is-listed _ (own next (Entry.Shown p) x (shown p))
  row_listed next Entry.Shared x = as_shared (common.shared_judged m l s)
  row_listed next Entry.Unlisted x = is-other refl

  pub judged : Listed (deed_in m l s)
  judged = by_answer _ _ (own_judged s m.load)
    where
      by_answer : (next : Load) (entry : Entry) → Judged (Own s m.load) next entry → Listed (deed next entry)
      by_answer next entry (listed x) = row_listed next entry x
      by_answer next entry (other p) = is-other (rw p)
      by_answer next entry (left p) = rw p (as_shared (common.shared_judged m l s))

  row_brings : (next : Load) (entry : Entry) (e : Effect) → Brought m l s next entry e → Brings m l s e (deed_plan m (request_of s) (deed next entry))
  row_brings next _ _ done = record { done = refl; next = refl; links = refl; reply = refl }
  row_brings next _ _ (shows x) = record { done = refl; next = refl; links = refl; reply = refl }
  row_brings next _ _ (shown p) = record { done = refl; next = refl; links = refl; reply = refl }

  -- a well-formed command that is looked at, whether its sender is linked or it needs no link
  module _ (w : well_formed s m.identity.address ≡ true) where
    pub fulfils : (e : Effect) → Legal m l s e → Brings m l s e (deed_plan m (request_of s) (deed_in m l s))
    fulfils e (shared x) =
        rw (leaves m l s (λ (command : Command). (answer s m.load command).entry) (own_leaves s m.load) e x)
        (common.shared-brings m l s (parts s m.identity.address w).0 e x)
    fulfils e (own next entry x b) = rw (own_says s m.load next entry x) (row_brings next entry e b)

    pub taken-looked-at : (ruling_of m l s).plan ≡ deed_plan m (request_of s) (deed_in m l s)
        → (room : List ℕ) (e : Effect) → length e.reply ≤ length room → Legal m l s e → Taken room e (step_of m l s room)
    taken-looked-at planned room e enough x = brought m l s room e _ w enough planned (fulfils e x)

planned : (m : Module) (l s : List ℕ) → FromLinked m l s → (ruling_of m l s).plan ≡ deed_plan m (request_of s) (deed_in m l s)
planned m l s h = ruled_linked m l s h.is-fit h.well-formed h.is-direct h.linked

pub taken : TakesEffect
taken m l s room e h enough x = taken-looked-at m l s h.well-formed (planned m l s h) room e enough x

pub unlisted : (m : Module) (l s room : List ℕ) → FromLinked m l s → 9 ≤ length room → deed_in m l s ≡ Deed.Unlisted → number_of (step_of m l s room).outcome ≡ 7
unlisted m l s room h enough p = numbered_by m l s room Outcome.Unlisted _ (planned m l s h ∙ ap (deed_plan m (request_of s)) p) enough

pub outside : ElseSeven
outside m l s room h enough none = go (judged m l s)
  where
    go : Listed m l s (deed_in m l s) → number_of (step_of m l s room).outcome ≡ 7
    go (is-listed e x) = absurd (none e x)
    go (is-other p) = unlisted m l s room h enough p

-- what an outlet does not take is not listed, nor do all kinds take it
module _ (m : Module) (sockets : Sockets) (l s : List ℕ) where
  abbrev Nothing : Load → Type 0
  Nothing load = own_deed m (request_of s) (data_of s) (records l) (command_in s) (answer s load (command_in s)) ≡ Deed.Unlisted

  not_here : NotHere s → Nothing (Load.Outlet sockets)
  unfolding standards extendeds choose status_entry load_entry bottom_entry second_entry property_entry properties_entry property_deed properties_deed
  not_here (on-fast x) = rw (short_command s 0x12 x, x.1)
  not_here (off-fast x) = rw (short_command s 0x14 x, x.1)
  not_here (brighten x) = rw (short_command s 0x15 x, x.1)
  not_here (dim x) = rw (short_command s 0x16 x, x.1)
  not_here (instant x) = rw (short_command s 0x21 x, x.1)
  not_here (percent x) = rw (short_command s 0x39 x, x.1)
  not_here (on-at-ramp x) = rw (short_command s 0x2e x, x.1)
  not_here (off-at-ramp x) = rw (short_command s 0x2f x, x.1)
  not_here (other-status x y z) = rw (short_command s 0x19 x, x.1, ne_eqb (command2_of s) 0x00 y, ne_eqb (command2_of s) 0x01 z)
  not_here (set-ramp x) = rw (long_command s 0x2e x.0, x.1, x.2)
  not_here (set-on-level x) = rw (long_command s 0x2e x.0, x.1, x.2)
  not_here (other-on x y) = rw (long_command s 0x11 x, x.1, ne_eqb (data_at s 1) 0x02 y)
  not_here (other-off x y) = rw (long_command s 0x13 x, x.1, ne_eqb (data_at s 1) 0x02 y)

pub outlet_seven : OutletSeven
outlet_seven m sockets l s room is h enough x = unlisted m l s room h enough (subst (Nothing m sockets l s) (sym is) (not_here m sockets l s x))

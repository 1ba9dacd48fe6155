-- A group command takes its stated effect, and any other is refused as stated.
use Prim.Native.Nat.{ℕ}
use Rattle.std.specs.Prelude.{Option, Some, None, is_some, option_map}
use mathlib.Core.Path.{◌≡◌, refl, sym, ◌∙◌, ap, subst}
use mathlib.Core.Bool.{Bool, true, false}
use mathlib.Core.List.{List}
use mathlib.Core.Logic.{◌⊎◌, inl, inr}
use native.Mathlib.Omega.{arith}
use lib.Dec.{eqb}
use borrow.Author.Tests.{eqb-true}
use Rattle.std.specs.Prelude.{Some}
use Rattle.basis.specs.Choice.{choose}
use Rattle.basis.proofs.Tests.{both, clash}
use Rattle.wire.specs.declared.command.GroupCommand.{GroupCommand}
use Rattle.wire.specs.Bytes.{from_of, to_of, command1_of, command2_of, request_of}
use Rattle.wire.specs.Commands.{group_command_of}
use Rattle.wire.specs.Kinds.{is_cleanup, is_broadcast}
use Rattle.wire.specs.Asked.{GroupCommand1}
use Rattle.wire.specs.Reading.{well_formed}
use Rattle.wire.proofs.Commanded.{Commanded, turns-on, turns-off, neither, commanded}
use Rattle.links.specs.declared.memory.Link.{Link}
use Rattle.links.specs.declared.search.Wanted.{Wanted}
use Rattle.links.specs.Record.{is_fit, record_at, link_of}
use Rattle.links.specs.Search.{search_of}
use Rattle.reply.specs.declared.due.ReplyType.{ReplyType}
use Rattle.results.specs.declared.Outcome.{Outcome}
use Rattle.results.specs.Number.{number_of}
use Rattle.load.specs.declared.state.Lamp.{Lamp}
use Rattle.load.specs.declared.state.Sockets.{Sockets}
use Rattle.load.specs.declared.state.Load.{Load}
use Rattle.load.specs.Judged.{GroupJudged, is_row, no_row}
use Rattle.module.specs.declared.state.Module.{Module}
use Rattle.module.specs.Change.{with_load}
use Rattle.module.specs.Module.{kind_of}
use Rattle.module.specs.Plan.{unlinked, unlisted}
use Rattle.dimmer.specs.LegalGroups.{on, off}
use Rattle.dimmer.proofs.LegalGroups as dimmers
use Rattle.outlet.specs.LegalGroups.{top, bottom}
use Rattle.outlet.proofs.LegalGroups as outlets
use Rattle.decide.specs.Dispatch.{group_deed_by}
use Rattle.decide.specs.Groups.{is_call, unconcerned, broadcast_by, broadcast_plan, cleanup_by, cleanup_plan}
use Rattle.decide.specs.Decide.{sender_in_group}
use Rattle.decide.specs.Ruling.{ruling_of}
use Rattle.device.specs.Step.{step_of}
use Rattle.promises.specs.Responders.{FirstResponder, NoResponder}
use Rattle.promises.specs.Groups.{GroupLegal, dimmer, outlet, NoRow, HasRow, broadcast_effect, cleanup_effect, ToGroup}
use Rattle.promises.specs.Groups.{Unconcerned, unfit-to, unfit-command, no-responder, unfit-record}
use Rattle.promises.specs.Groups.{EachHasRow, SocketHasRow, NoSocketNoRow, NoCommandNoRow}
use Rattle.promises.specs.Groups.{BroadcastTaken, BroadcastElse, CleanupTaken, CleanupUnlinked, CleanupElse, CleanupUnfit}
use Rattle.promises.proofs.Ruled.{cleanup_ruling, broadcast_ruling}
use Rattle.promises.proofs.Brings.{Brings, brought, numbered_by}
use Rattle.promises.proofs.Responders.{found_first, found_none, SomeFirst, first_or_none}
use Rattle.promises.proofs.GroupRows.{Alters, RowJudged, fits, fits-none}

-- what is carried out is listed, and a dimmer is no outlet
apart_deeds : {A : Type 0} {load : Load} → ◌≡◌ {A = Option Load} None (Some load) → A
apart_deeds e = clash (ap is_some e) refl

other_kind : {lamp : Lamp} {sockets : Sockets} → Load.Dimmer lamp ≡ Load.Outlet sockets → ⊥
other_kind e = let z : ◌≡◌ {A = ℕ} 1 2 = ap kind_of e in omega arith

-- by the module's kind
module _ (m : Module) (s : List ℕ) (link : Link) where
  abbrev command : GroupCommand
  command = group_command_of (command1_of s)

  abbrev AltersBy : Module → Load → Type 0
  AltersBy next load = Alters m next (group_deed_by load command link)

  pub alters : (next : Module) → GroupLegal m s link next → Alters m next (group_deed_by m.load command link)
  alters _ (dimmer lamp x is row) =
      let says = dimmers.says lamp s link command (commanded (command1_of s)) x row in
      subst (AltersBy (with_load (Load.Dimmer x) m)) (sym is) (record { load = Load.Dimmer x; done = ap (option_map Load.Dimmer) says; next = refl })
  alters _ (outlet sockets x is row) =
      let says = outlets.says sockets s link command (commanded (command1_of s)) x row in
      subst (AltersBy (with_load (Load.Outlet x) m)) (sym is) (record { load = Load.Outlet x; done = ap (option_map Load.Outlet) says; next = refl })

  grouped : (next : Module) → GroupLegal m s link next → GroupCommand1 s
  grouped _ (dimmer lamp x is row) = dimmers.grouped lamp s link x row
  grouped _ (outlet sockets x is row) = outlets.grouped sockets s link x row

  -- a row fits, or the deed is not listed
  row_judged : RowJudged (GroupLegal m s link) (group_deed_by m.load command link)
  row_judged = by_kind m.load refl
    where
      of_kind : {A : Type 0} (Row : A → Type 0) (load : A → Load) (next : Option A)
          → ((x : A) → Row x → GroupLegal m s link (with_load (load x) m))
          → GroupJudged Row next → RowJudged (GroupLegal m s link) (option_map load next)
      of_kind Row load _ row (is_row x h) = fits _ (row x h)
      of_kind Row load _ row no_row = fits-none refl

      by_kind : (load : Load) → m.load ≡ load → RowJudged (GroupLegal m s link) (group_deed_by load command link)
      by_kind (Load.Dimmer lamp) is = of_kind _ Load.Dimmer _ (λ next x. dimmer lamp next is x) (dimmers.judged lamp s link command (commanded (command1_of s)))
      by_kind (Load.Outlet sockets) is = of_kind _ Load.Outlet _ (λ next x. outlet sockets next is x) (outlets.judged sockets s link command (commanded (command1_of s)))

  -- so where none fits, it is not listed
  pub unlisted_deed : NoRow m s link → group_deed_by m.load command link ≡ None
  unlisted_deed none = go row_judged
    where
      go : {deed : Option Load} → RowJudged (GroupLegal m s link) deed → deed ≡ None
      go (fits next x) = absurd (none next x)
      go (fits-none p) = p

  pub row_or_none : HasRow m s link ⊎ NoRow m s link
  row_or_none = go row_judged
    where
      go : RowJudged (GroupLegal m s link) (group_deed_by m.load command link) → HasRow m s link ⊎ NoRow m s link
      go (fits next x) = inl (record { next = next; row = x })
      go (fits-none p) = inr (λ next x. apart_deeds (sym p ∙ (alters next x).done))

pub no_command_no_row : NoCommandNoRow
no_command_no_row m s link h next x = h (grouped m s link next x)

pub each_has_row : EachHasRow
each_has_row m lamp s link is h = go (group_command_of (command1_of s)) (commanded (command1_of s))
  where
    go : (command : GroupCommand) → Commanded (command1_of s) command → HasRow m s link
    go command (turns-on p q) = record { next = _; row = dimmer lamp _ is (on p q) }
    go command (turns-off p q) = record { next = _; row = dimmer lamp _ is (off p q) }
    go command (neither none) = absurd (none h)

pub socket_has_row : SocketHasRow
socket_has_row m sockets s link is h = go (outlets.some_turn sockets s link (group_command_of (command1_of s)) (commanded (command1_of s)) h)
  where
    go : outlets.Turn sockets s link → (link.d3 ≡ 0x01) ⊎ (link.d3 ≡ 0x02) → HasRow m s link
    go t (inl e) = record { next = _; row = outlet sockets _ is (top t.to e t.turns) }
    go t (inr e) = record { next = _; row = outlet sockets _ is (bottom t.to e t.turns) }

pub no_socket_no_row : NoSocketNoRow
no_socket_no_row m sockets s link is a b _ (dimmer lamp x also row) = other_kind (sym also ∙ is)
no_socket_no_row m sockets s link is a b _ (outlet _ _ also (top x e t)) = a e
no_socket_no_row m sockets s link is a b _ (outlet _ _ also (bottom x e t)) = b e

-- which broadcasts call a group
module _ (s : List ℕ) where
  abbrev pub calls : GroupCommand → Bool
  calls command = is_call (to_of s) command

  pub called : ToGroup s → GroupCommand1 s → calls (group_command_of (command1_of s)) ≡ true
  called to h = go (group_command_of (command1_of s)) (commanded (command1_of s))
    where
      go : (command : GroupCommand) → Commanded (command1_of s) command → calls command ≡ true
      go command (turns-on p q) = rw (to.0, to.1)
      go command (turns-off p q) = rw (to.0, to.1)
      go command (neither none) = absurd (none h)

  pub calling : calls (group_command_of (command1_of s)) ≡ true → ToGroup s × GroupCommand1 s
  calling = go (group_command_of (command1_of s)) (commanded (command1_of s))
    where
      to : calls GroupCommand.On ≡ true → ToGroup s
      to e =
          let p = both (eqb (to_of s).high 0x00) (eqb (to_of s).middle 0x00) e in
          (eqb-true (to_of s).high 0x00 p.0, eqb-true (to_of s).middle 0x00 p.1)

      go : (command : GroupCommand) → Commanded (command1_of s) command → calls command ≡ true → ToGroup s × GroupCommand1 s
      go command (turns-on p q) e = (to e, (p, omega arith))
      go command (turns-off p q) e = (to e, (omega arith, q))
      go command (neither none) e = clash refl (sym e)

  pub uncalled : {A : Type 0} → (¬ ToGroup s → A) → (¬ GroupCommand1 s → A) → calls (group_command_of (command1_of s)) ≡ false → A
  uncalled {A} by-to by_command = go (group_command_of (command1_of s)) (commanded (command1_of s))
    where
      go : (command : GroupCommand) → Commanded (command1_of s) command → calls command ≡ false → A
      go command (turns-on p q) e = by-to (λ to. clash (rw (to.0, to.1)) e)
      go command (turns-off p q) e = by-to (λ to. clash (rw (to.0, to.1)) e)
      go command (neither none) e = by_command none

module _ (m : Module) (l s : List ℕ) (f : is_fit l ≡ true) (w : well_formed s m.identity.address ≡ true) where
  module _ (b : is_broadcast s ≡ true) where
    ruled-call : calls s (group_command_of (command1_of s)) ≡ true
        → (ruling_of m l s).plan ≡ broadcast_plan m.load (group_command_of (command1_of s)) (search_of l (Some (Wanted.Responder (from_of s) (to_of s).low))).found
    unfolding choose
    ruled-call e = rw (broadcast_ruling m l s f w b, e)

    ruled-no-call : calls s (group_command_of (command1_of s)) ≡ false → (ruling_of m l s).plan ≡ unconcerned
    unfolding choose
    ruled-no-call e = rw (broadcast_ruling m l s f w b, e)

    pub ruled-first : calls s (group_command_of (command1_of s)) ≡ true → (k : ℕ) → FirstResponder l (from_of s) (to_of s).low k
        → (ruling_of m l s).plan ≡ broadcast_by (group_deed_by m.load (group_command_of (command1_of s)) (link_of (record_at l k)))
    ruled-first e k r = ruled-call e ∙ found_first l (from_of s) (to_of s).low _ unconcerned k r

    pub ruled-unconcerned : Unconcerned m l s → (ruling_of m l s).plan ≡ unconcerned
    ruled-unconcerned u = go (calls s (group_command_of (command1_of s))) refl u
      where
        go : (t : Bool) → calls s (group_command_of (command1_of s)) ≡ t → Unconcerned m l s → (ruling_of m l s).plan ≡ unconcerned
        go false e u = ruled-no-call e
        go true e (unfit-to h) = absurd (h (calling s e).0)
        go true e (unfit-command h) = absurd (h (calling s e).1)
        go true e (no-responder h) = ruled-call e ∙ found_none l (from_of s) (to_of s).low _ unconcerned h
        go true e (unfit-record k r h) = ruled-first e k r ∙ ap broadcast_by (unlisted_deed m s (link_of (record_at l k)) h)

  module _ (c : is_cleanup s ≡ true) where
    ruled-cleanup : (ruling_of m l s).plan ≡ cleanup_plan m.load (request_of s) (group_command_of (command1_of s)) (search_of l (sender_in_group (request_of s))).found
    ruled-cleanup = rw (cleanup_ruling m l s f w c)

    pub ruled-responder : (k : ℕ) → FirstResponder l (from_of s) (command2_of s) k
        → (ruling_of m l s).plan ≡ cleanup_by (request_of s) (group_deed_by m.load (group_command_of (command1_of s)) (link_of (record_at l k)))
    ruled-responder k r = ruled-cleanup ∙ found_first l (from_of s) (command2_of s) _ (unlinked ReplyType.CleanupNak (request_of s)) k r

    pub ruled-no-row : (k : ℕ) → FirstResponder l (from_of s) (command2_of s) k → NoRow m s (link_of (record_at l k))
        → (ruling_of m l s).plan ≡ unlisted ReplyType.CleanupNak (request_of s)
    ruled-no-row k r h = ruled-responder k r ∙ ap (cleanup_by (request_of s)) (unlisted_deed m s (link_of (record_at l k)) h)

    pub ruled-no-responder : NoResponder l (from_of s) (command2_of s) → (ruling_of m l s).plan ≡ unlinked ReplyType.CleanupNak (request_of s)
    ruled-no-responder h = ruled-cleanup ∙ found_none l (from_of s) (command2_of s) _ (unlinked ReplyType.CleanupNak (request_of s)) h

-- what a row brings about
module _ (m : Module) (l s : List ℕ) (next : Module) (deed : Option Load) (a : Alters m next deed) where
  pub broadcast_brings : Brings m l s (broadcast_effect l next) (broadcast_by deed)
  broadcast_brings = rw a.done (record { done = refl; next = a.next; links = refl; reply = refl })

  pub cleanup_brings : Brings m l s (cleanup_effect m l s next) (cleanup_by (request_of s) deed)
  cleanup_brings = rw a.done (record { done = refl; next = a.next; links = refl; reply = refl })

module _ (m : Module) (l s room : List ℕ) where
  pub broadcast_taken : BroadcastTaken m l s room
  broadcast_taken f w b to k r next x =
      let link = link_of (record_at l k) in
      let is = ruled-first m l s f w b (called s to (grouped m s link next x)) k r in
      brought m l s room (broadcast_effect l next) _ w (omega arith) is (broadcast_brings m l s next _ (alters m s link next x))

  pub broadcast_else : BroadcastElse m l s room
  broadcast_else f w b u = numbered_by m l s room Outcome.Unconcerned _ (ruled-unconcerned m l s f w b u) (omega arith)

  pub cleanup_taken : CleanupTaken m l s room
  cleanup_taken f w c enough k r next x =
      let link = link_of (record_at l k) in
      brought m l s room (cleanup_effect m l s next) _ w enough (ruled-responder m l s f w c k r) (cleanup_brings m l s next _ (alters m s link next x))

  pub cleanup_unlinked : CleanupUnlinked m l s room
  cleanup_unlinked f w c enough h = numbered_by m l s room Outcome.NotLinked _ (ruled-no-responder m l s f w c h) enough

  pub cleanup_unfit : CleanupUnfit m l s room
  cleanup_unfit f w c enough k r h = numbered_by m l s room Outcome.Unlisted _ (ruled-no-row m l s f w c k r h) enough

  pub cleanup_else : CleanupElse m l s room
  cleanup_else f w c enough k r h = go (first_or_none l (from_of s) (command2_of s))
    where
      go : SomeFirst l (from_of s) (command2_of s) ⊎ NoResponder l (from_of s) (command2_of s) → number_of (step_of m l s room).outcome ≡ 7
      go (inl x) = cleanup_unfit f w c enough x.place x.decides (no_command_no_row m s (link_of (record_at l x.place)) h)
      go (inr nobody) = absurd (nobody k r)

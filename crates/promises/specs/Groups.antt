-- "Groups": what a group command brings about, stated on its own, and when it is refused.
use Rattle.std.specs.Prelude.{ℕ, ◌≤◌, ◌≡◌, true, List, [], ◌⊎◌, length}
use Rattle.wire.specs.Bytes.{from_of, to_of, hops_of, command1_of, command2_of}
use Rattle.wire.specs.Kinds.{is_cleanup, is_broadcast}
use Rattle.wire.specs.Asked.{GroupCommand1}
use Rattle.wire.specs.Reading.{well_formed}
use Rattle.links.specs.declared.memory.Link.{Link}
use Rattle.links.specs.Record.{is_fit, record_at, link_of}
use Rattle.reply.specs.declared.due.ReplyType.{ReplyType}
use Rattle.reply.specs.Message.{standard}
use Rattle.results.specs.Number.{number_of}
use Rattle.load.specs.declared.state.Lamp.{Lamp}
use Rattle.load.specs.declared.state.Sockets.{Sockets}
use Rattle.load.specs.declared.state.Load.{Load}
use Rattle.module.specs.declared.state.Module.{Module}
use Rattle.module.specs.Change.{with_load}
use Rattle.dimmer.specs.LegalGroups.{GroupDimmer}
use Rattle.outlet.specs.LegalGroups.{GroupOutlet}
use Rattle.device.specs.Step.{step_of}
use Rattle.promises.specs.Legal.{Effect, Taken}
use Rattle.promises.specs.Responders.{Responder, FirstResponder, NoResponder}

-- what the deciding record makes of a module, by its kind
pub data GroupLegal (m : Module) (s : List ℕ) (decides : Link) : Module → Type 0 where
  dimmer : (lamp next : Lamp) → m.load ≡ Load.Dimmer lamp → GroupDimmer lamp s decides next → GroupLegal m s decides (with_load (Load.Dimmer next) m)
  outlet : (sockets next : Sockets) → m.load ≡ Load.Outlet sockets → GroupOutlet sockets s decides next
      → GroupLegal m s decides (with_load (Load.Outlet next) m)

-- it makes nothing of it: the record fits no row of the module's kind
abbrev pub NoRow : Module → List ℕ → Link → Type 0
NoRow m s decides = (next : Module) → ¬ GroupLegal m s decides next

-- a broadcast is never answered; a cleanup is ACKed with both commands
abbrev pub broadcast_effect : List ℕ → Module → Effect
broadcast_effect l next = record { next = next; links = l; reply = [] }

abbrev pub cleanup_effect : Module → List ℕ → List ℕ → Module → Effect
cleanup_effect m l s next =
    record { next = next; links = l; reply = standard m.identity.address (from_of s) ReplyType.CleanupAck (hops_of s) (command1_of s) (command2_of s) }

-- To = 00 00 group
abbrev pub ToGroup : List ℕ → Type 0
ToGroup s = ((to_of s).high ≡ 0x00) × ((to_of s).middle ≡ 0x00)

-- a group broadcast that concerns us not
pub data Unconcerned (m : Module) (l s : List ℕ) : Type 0 where
  unfit-to : ¬ ToGroup s → Unconcerned m l s
  unfit-command : ¬ GroupCommand1 s → Unconcerned m l s
  no-responder : NoResponder l (from_of s) (to_of s).low → Unconcerned m l s
  -- the first responder record fits no row, even where a later one would
  unfit-record : (k : ℕ) → FirstResponder l (from_of s) (to_of s).low k → NoRow m s (link_of (record_at l k)) → Unconcerned m l s

-- of well-formed messages, to a module with fit link memory
module _ (m : Module) (l s room : List ℕ) where
  -- a broadcast whose group has a first responder record
  abbrev pub BroadcastTaken : Type 0
  BroadcastTaken =
      is_fit l ≡ true → well_formed s m.identity.address ≡ true → is_broadcast s ≡ true → ToGroup s →
      (k : ℕ) → FirstResponder l (from_of s) (to_of s).low k → (next : Module) → GroupLegal m s (link_of (record_at l k)) next →
      Taken room (broadcast_effect l next) (step_of m l s room)

  -- else 8
  abbrev pub BroadcastElse : Type 0
  BroadcastElse =
      is_fit l ≡ true → well_formed s m.identity.address ≡ true → is_broadcast s ≡ true → Unconcerned m l s →
      number_of (step_of m l s room).outcome ≡ 8

  -- a cleanup: group in Command 2
  abbrev pub CleanupTaken : Type 0
  CleanupTaken =
      is_fit l ≡ true → well_formed s m.identity.address ≡ true → is_cleanup s ≡ true → 9 ≤ length room →
      (k : ℕ) → FirstResponder l (from_of s) (command2_of s) k → (next : Module) → GroupLegal m s (link_of (record_at l k)) next →
      Taken room (cleanup_effect m l s next) (step_of m l s room)

  -- no record gives 6
  abbrev pub CleanupUnlinked : Type 0
  CleanupUnlinked =
      is_fit l ≡ true → well_formed s m.identity.address ≡ true → is_cleanup s ≡ true → 9 ≤ length room →
      NoResponder l (from_of s) (command2_of s) → number_of (step_of m l s room).outcome ≡ 6

  -- then Command 1 outside 11 to 14 gives 7
  abbrev pub CleanupElse : Type 0
  CleanupElse =
      is_fit l ≡ true → well_formed s m.identity.address ≡ true → is_cleanup s ≡ true → 9 ≤ length room →
      (k : ℕ) → Responder l (from_of s) (command2_of s) k → ¬ GroupCommand1 s → number_of (step_of m l s room).outcome ≡ 7

  -- and so does a first responder record that fits no row, even where a later one would
  abbrev pub CleanupUnfit : Type 0
  CleanupUnfit =
      is_fit l ≡ true → well_formed s m.identity.address ≡ true → is_cleanup s ≡ true → 9 ≤ length room →
      (k : ℕ) → FirstResponder l (from_of s) (command2_of s) k → NoRow m s (link_of (record_at l k)) → number_of (step_of m l s room).outcome ≡ 7

-- the record fits a row
pub record HasRow (m : Module) (s : List ℕ) (decides : Link) : Type 0 where
  pub next : Module
  pub row : GroupLegal m s decides next

-- on a dimmer each Command 1 in 11 to 14 has its row
abbrev pub EachHasRow : Type 0
EachHasRow = (m : Module) (lamp : Lamp) (s : List ℕ) (decides : Link) → m.load ≡ Load.Dimmer lamp → GroupCommand1 s → HasRow m s decides

-- on an outlet it has where the record's D3 is 01 or 02
abbrev pub SocketHasRow : Type 0
SocketHasRow =
    (m : Module) (sockets : Sockets) (s : List ℕ) (decides : Link) → m.load ≡ Load.Outlet sockets → GroupCommand1 s →
    (decides.d3 ≡ 0x01) ⊎ (decides.d3 ≡ 0x02) → HasRow m s decides

-- and else has none: a cleanup then gives 7 and a broadcast 8
abbrev pub NoSocketNoRow : Type 0
NoSocketNoRow =
    (m : Module) (sockets : Sockets) (s : List ℕ) (decides : Link) → m.load ≡ Load.Outlet sockets →
    ¬ (decides.d3 ≡ 0x01) → ¬ (decides.d3 ≡ 0x02) → NoRow m s decides

-- outside 11 to 14 there is none on any kind
abbrev pub NoCommandNoRow : Type 0
NoCommandNoRow = (m : Module) (s : List ℕ) (decides : Link) → ¬ GroupCommand1 s → NoRow m s decides

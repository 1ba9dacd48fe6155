-- All that a stranger's message comes to.
use Prim.Native.Nat.{ℕ}
use mathlib.Core.Path.{◌≡◌, refl, sym, ◌∙◌}
use mathlib.Core.Bool.{Bool, true, false, not, ◌&&◌, ◌||◌}
use mathlib.Core.List.{List, [], ◌++◌}
use lib.Dec.{eqb}
use lib.ListN.{drop}
use borrow.Author.Tests.{eqb-true, not-true}
use Rattle.basis.specs.Choice.{choose}
use Rattle.basis.specs.Table.{Row, among}
use Rattle.basis.proofs.Table.{passed}
use Rattle.basis.proofs.Choice.{either, beside}
use Rattle.basis.proofs.Tests.{clash}
use Rattle.wire.specs.declared.command.Standard.{Standard}
use Rattle.wire.specs.declared.request.Request.{Request}
use Rattle.wire.specs.declared.command.OpenCommand.{OpenCommand}
use Rattle.wire.specs.declared.command.Command.{Command}
use Rattle.wire.specs.declared.kind.MessageKind.{MessageKind}
use Rattle.wire.specs.declared.kind.Message.{Message}
use Rattle.wire.specs.Bytes.{from_of, hops_of, to_of, command1_of, request_of, data_of, is_extended, is_whole}
use Rattle.wire.specs.Commands.{standards, standard_of, group_command_of}
use Rattle.wire.specs.Kinds.{is_direct, is_cleanup, is_foreign, command_of, kind_of}
use Rattle.wire.specs.Checksum.{is_sum_wrong}
use Rattle.wire.specs.Reading.{read_of}
use Rattle.links.specs.Record.{is_fit, records}
use Rattle.reply.specs.declared.due.ReplyType.{ReplyType}
use Rattle.reply.specs.Message.{standard, head_of}
use Rattle.reply.specs.Reply.{reply_of}
use Rattle.module.specs.declared.state.Identity.{Identity}
use Rattle.load.specs.declared.entry.Entry.{Entry}
use Rattle.load.specs.declared.state.Load.{Load}
use Rattle.module.specs.declared.state.Module.{Module}
use Rattle.module.specs.declared.change.Change.{Change}
use Rattle.std.specs.Prelude.{None}
use Rattle.module.specs.declared.plan.Plan.{Plan}
use Rattle.module.specs.Plan.{id_of, ack_to, deed_plan}
use Rattle.decide.specs.declared.rule.Ruling.{Ruling}
use Rattle.shared.specs.Standard.{open_deed}
use Rattle.decide.specs.Dispatch.{entry_by, deed_of}
use Rattle.decide.specs.Decide.{is_open, needs_no_link}
use Rattle.decide.specs.Ruling.{heard_by, kind_ruling, read_ruling, ruling_by, ruling_of}
use Rattle.decide.proofs.Sender.{exempt-plan, stranger-plan, stranger_cleanup, stranger_broadcast}
use Rattle.promises.specs.Demand3.{Stranger, ping_or_id}
use Rattle.wire.specs.Asked.{command_in}

-- what needs no link is a standard ping or ID request
open_is : (command1 : ℕ) → is_open (standard_of command1) ≡ eqb command1 0x0f || eqb command1 0x10
unfolding standards choose
open_is command1 = go (eqb command1 0x0f) (eqb command1 0x10)
  where
    closed : List (Row Standard)
    closed = drop 2 standards

    rest : Standard
    rest = among command1 Standard.Load closed

    go : (ping id : Bool) → is_open (choose ping (Standard.Open OpenCommand.Ping) (choose id (Standard.Open OpenCommand.IdRequest) rest)) ≡ ping || id
    go true id = refl
    go false true = refl
    go false false = not-true (is_open rest) (passed (λ (x : Standard). not (is_open x)) command1 Standard.Load closed refl refl)

pub exempt : (s : List ℕ) → needs_no_link (command_in s) ≡ ping_or_id s
unfolding choose
exempt s = go (is_extended s)
  where
    go : (long : Bool) → needs_no_link (command_of long (command1_of s)) ≡ not long && (eqb (command1_of s) 0x0f || eqb (command1_of s) 0x10)
    go true = refl
    go false = open_is (command1_of s)

-- what a module of this identity sends to a stranger, by the message alone
module _ (i : Identity) (s : List ℕ) where
  -- to a standard ping or ID request
  abbrev open_bytes : Bool → List ℕ
  open_bytes ping =
      choose ping (head_of i.address (ack_to (request_of s)))
      (head_of i.address (ack_to (request_of s)) ++ standard i.address (id_of i) ReplyType.IdBroadcast (hops_of s) 0x01 i.revision)

  abbrev kind_bytes : List ℕ
  kind_bytes =
      choose (is_direct s) (choose (ping_or_id s) (open_bytes (eqb (command1_of s) 0x0f)) (standard i.address (from_of s) ReplyType.Nak (hops_of s) (command1_of s) 0xff))
      (choose (is_cleanup s) (standard i.address (from_of s) ReplyType.CleanupNak (hops_of s) (command1_of s) 0xff)
      [])

  abbrev pub stranger_bytes : List ℕ
  stranger_bytes = choose (is_whole s) (choose (is_foreign s i.address) [] (choose (is_sum_wrong s) [] kind_bytes)) []

-- nothing is changed, and nothing written
abbrev pub Idle : Plan → Type 0
Idle p = (p.change ≡ Change.Nothing) × (p.writing ≡ None)

-- a plan that changes nothing, writes nothing and sends these bytes
pub record Quiet (m : Module) (l : List ℕ) (p : Plan) (bytes : List ℕ) : Type 0 where
  pub nothing : Idle p
  pub sent : reply_of m.identity.address l p.due ≡ bytes

-- every kind leaves a ping and an ID request as they are
open_entry : (load : Load) (r : Request) (d : List ℕ) (command : OpenCommand) → (entry_by load r d (Command.Standard (Standard.Open command))).entry ≡ Entry.Shared
open_entry (Load.Dimmer lamp) r d command = refl
open_entry (Load.Outlet sockets) r d command = refl

module _ (m : Module) (l s : List ℕ) (stranger : Stranger l s) where
  open_deed_lem : (d : List ℕ) (n : ℕ) (command : OpenCommand) → standard_of (command1_of s) ≡ Standard.Open command
      → deed_of m (request_of s) d n (Command.Standard (standard_of (command1_of s))) ≡ open_deed command
  open_deed_lem d n command is = rw (is, open_entry m.load (request_of s) d command)

  opens : (d : List ℕ) (n : ℕ) → ping_or_id s ≡ true
      → Quiet m l (deed_plan m (request_of s) (deed_of m (request_of s) d n (command_in s))) (open_bytes m.identity s (eqb (command1_of s) 0x0f))
  unfolding choose standards
  opens d n e = go (is_extended s) (eqb (command1_of s) 0x0f) refl e
    where
      go : (long ping : Bool) → eqb (command1_of s) 0x0f ≡ ping → not long && (ping || eqb (command1_of s) 0x10) ≡ true
          → Quiet m l (deed_plan m (request_of s) (deed_of m (request_of s) d n (command_of long (command1_of s)))) (open_bytes m.identity s ping)
      go true ping q e = clash refl (sym e)
      go false true q e = rw (open_deed_lem d n OpenCommand.Ping (rw (eqb-true (command1_of s) 0x0f q))) (record { nothing = (refl, refl); sent = refl })
      go false false q e = rw (open_deed_lem d n OpenCommand.IdRequest (rw (eqb-true (command1_of s) 0x10 e))) (record { nothing = (refl, refl); sent = refl })

  module _ (d : List ℕ) where
    abbrev QuietKind : MessageKind → List ℕ → Type 0
    QuietKind kind bytes = Quiet m l (kind_ruling m l d kind).plan bytes

    to-direct : (t : Bool) → ping_or_id s ≡ t
        → QuietKind (MessageKind.Direct (request_of s) (command_in s))
        (choose t (open_bytes m.identity s (eqb (command1_of s) 0x0f)) (standard m.identity.address (from_of s) ReplyType.Nak (hops_of s) (command1_of s) 0xff))
    unfolding choose
    to-direct true e = rw (exempt-plan m l (request_of s) d (records l) (command_in s) (exempt s ∙ e)) (opens d (records l) e)
    to-direct false e = rw (stranger-plan m l (request_of s) d (records l) (command_in s) stranger (exempt s ∙ e)) (record { nothing = (refl, refl); sent = refl })

    to-cleanup : QuietKind (MessageKind.Cleanup (request_of s) (group_command_of (command1_of s)))
        (standard m.identity.address (from_of s) ReplyType.CleanupNak (hops_of s) (command1_of s) 0xff)
    to-cleanup = rw (stranger_cleanup m l (request_of s) stranger (group_command_of (command1_of s))) (record { nothing = (refl, refl); sent = refl })

    to-broadcast : QuietKind (MessageKind.Broadcast (from_of s) (to_of s) (group_command_of (command1_of s))) []
    to-broadcast = rw (stranger_broadcast m l (from_of s) (to_of s) stranger (group_command_of (command1_of s))) (record { nothing = (refl, refl); sent = refl })

    kind-quiet : QuietKind (kind_of s) (kind_bytes m.identity s)
    unfolding kind_of
    kind-quiet = beside QuietKind (is_direct s) (to-direct (ping_or_id s) refl) (beside QuietKind (is_cleanup s) to-cleanup to-broadcast)

  read_quiet : Quiet m l (read_ruling m l (heard_by m s).«data» (heard_by m s).reading).plan (stranger_bytes m.identity s)
  unfolding read_of
  read_quiet =
      beside Q (is_whole s)
      (beside Q (is_foreign s m.identity.address) (record { nothing = (refl, refl); sent = refl })
      (beside Q (is_sum_wrong s) (record { nothing = (refl, refl); sent = refl }) (kind-quiet (data_of s))))
      (record { nothing = (refl, refl); sent = refl })
    where
      Q : Message → List ℕ → Type 0
      Q message bytes = Quiet m l (read_ruling m l message.«data» message.reading).plan bytes

  pub ruling_quiet : is_fit l ≡ true → Quiet m l (ruling_of m l s).plan (stranger_bytes m.identity s)
  unfolding ruling_by choose
  ruling_quiet f = rw f read_quiet

  -- whatever the memory, a stranger alters nothing
  pub unaltered : Idle (ruling_of m l s).plan
  unfolding ruling_by
  unaltered = either (λ (r : Ruling). Idle r.plan) (is_fit l) read_quiet.nothing (refl, refl)

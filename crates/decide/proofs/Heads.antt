-- Every reply begins with a standard message, an ACK or a NAK, with the hops of its request.
use Prim.Native.Nat.{ℕ}
use Rattle.std.specs.Prelude.{Option, Some, None}
use mathlib.Core.Path.{◌≡◌, refl}
use mathlib.Core.Bool.{false, ◌||◌}
use mathlib.Core.List.{List}
use Rattle.std.specs.Prelude.{is_ok}
use Rattle.basis.specs.Numbers.{is_set}
use Rattle.basis.proofs.Choice.{either}
use Rattle.wire.specs.declared.address.Address.{Address}
use Rattle.wire.specs.declared.request.Request.{Request}
use Rattle.wire.specs.declared.command.Command.{Command}
use Rattle.wire.specs.declared.command.GroupCommand.{GroupCommand}
use Rattle.wire.specs.declared.kind.MessageKind.{MessageKind}
use Rattle.wire.specs.declared.kind.Message.{Message}
use Rattle.wire.specs.Bytes.{from_of, to_of, hops_of, command1_of, request_of, data_of, is_extended, is_whole}
use Rattle.wire.specs.Commands.{group_command_of}
use Rattle.wire.specs.Checksum.{is_sum_wrong}
use Rattle.wire.specs.Kinds.{is_direct, is_cleanup, is_foreign, command_of, kind_of}
use Rattle.wire.specs.Reading.{read_of}
use Rattle.links.specs.Record.{is_fit, records}
use Rattle.links.specs.Search.{search_of}
use Rattle.links.proofs.Following.{by_found}
use Rattle.reply.specs.declared.due.ReplyType.{ReplyType}
use Rattle.reply.specs.Message.{type_bits, headed}
use Rattle.reply.proofs.Messages.{Opens, Begins}
use Rattle.load.specs.declared.state.Load.{Load}
use Rattle.module.specs.declared.state.Module.{Module}
use Rattle.module.specs.declared.deed.Ack.{Ack}
use Rattle.module.specs.declared.deed.Deed.{Deed}
use Rattle.module.specs.declared.plan.Plan.{Plan}
use Rattle.module.specs.Plan.{due_of, deed_plan}
use Rattle.decide.specs.declared.rule.Ruling.{Ruling}
use Rattle.decide.specs.Dispatch.{deed_of, group_deed_by}
use Rattle.decide.specs.Groups.{broadcast_by, cleanup_by}
use Rattle.decide.specs.Decide.{needs_no_link, direct_plan, wanted_of}
use Rattle.decide.specs.Ruling.{read_ruling, kind_ruling, ruling_by, ruling_of}

abbrev Begun : ℕ → Plan → Type 0
Begun hops p = Begins hops p.due

opened : (type : ReplyType) (r : Request) (one two : ℕ) → is_set 4 (type_bits type) ≡ false → Opens r.hops (headed type r one two)
opened type r one two e = record { short = e; fresh = refl }

module _ (m : Module) (r : Request) where
  ack_begins : (ack : Ack) → Begins r.hops (due_of m r ack)
  ack_begins Ack.Repeated = opened ReplyType.Ack r _ _ refl
  ack_begins (Ack.Telling command2) = opened ReplyType.Ack r _ _ refl
  ack_begins (Ack.AfterDelta command2) = opened ReplyType.Ack r _ _ refl
  ack_begins Ack.WithId = opened ReplyType.Ack r _ _ refl
  ack_begins (Ack.WithProperties d) = opened ReplyType.Ack r _ _ refl
  ack_begins (Ack.WithRecords asked) = opened ReplyType.Ack r _ _ refl

  deed_begins : (deed : Deed) → Begun r.hops (deed_plan m r deed)
  deed_begins (Deed.Done change ack) = ack_begins ack
  deed_begins (Deed.Written write) = opened ReplyType.Ack r _ _ refl
  deed_begins Deed.Unlisted = opened ReplyType.Nak r _ _ refl

cleanup_begins : (r : Request) (next : Option Load) → Begun r.hops (cleanup_by r next)
cleanup_begins r (Some load) = opened ReplyType.CleanupAck r _ _ refl
cleanup_begins r None = opened ReplyType.CleanupNak r _ _ refl

-- a broadcast is not answered
broadcast_begins : (hops : ℕ) (next : Option Load) → Begun hops (broadcast_by next)
broadcast_begins hops (Some load) = tt
broadcast_begins hops None = tt

module _ (m : Module) (l d : List ℕ) where
  abbrev Answered : ℕ → MessageKind → Type 0
  Answered hops kind = Begun hops (kind_ruling m l d kind).plan

  direct : (r : Request) (command : Command) → Answered r.hops (MessageKind.Direct r command)
  unfolding direct_plan
  direct r command =
      either (Begun r.hops) (needs_no_link command || is_ok (search_of l (wanted_of (MessageKind.Direct r command))).found)
      (deed_begins m r (deed_of m r d (records l) command)) (opened ReplyType.Nak r _ _ refl)

  cleanup : (r : Request) (command : GroupCommand) → Answered r.hops (MessageKind.Cleanup r command)
  cleanup r command =
      by_found (Begun r.hops) (search_of l (wanted_of (MessageKind.Cleanup r command))).found _ _ (λ link. cleanup_begins r (group_deed_by m.load command link)) (opened ReplyType.CleanupNak r _ _ refl)

  broadcast : (hops : ℕ) (from to : Address) (command : GroupCommand) → Answered hops (MessageKind.Broadcast from to command)
  broadcast hops from to command =
      by_found (Begun hops) (search_of l (wanted_of (MessageKind.Broadcast from to command))).found _ _ (λ link. broadcast_begins hops (group_deed_by m.load command link)) tt

module _ (m : Module) (l s : List ℕ) where
  kind_begins : Answered m l (data_of s) (hops_of s) (kind_of s)
  unfolding kind_of
  kind_begins =
      let Kind : MessageKind → Type 0 = Answered m l (data_of s) (hops_of s) in
      let command : GroupCommand = group_command_of (command1_of s) in
      either Kind (is_direct s) (direct m l (data_of s) (request_of s) (command_of (is_extended s) (command1_of s)))
      (either Kind (is_cleanup s) (cleanup m l (data_of s) (request_of s) command) (broadcast m l (data_of s) (hops_of s) (from_of s) (to_of s) command))

  abbrev Read : Message → Type 0
  Read message = Begun (hops_of s) (read_ruling m l message.«data» message.reading).plan

  read_begins : Read (read_of s m.identity.address)
  unfolding read_of
  read_begins = either Read (is_whole s) (either Read (is_foreign s m.identity.address) tt (either Read (is_sum_wrong s) tt kind_begins)) tt

  pub ruling_begins : Begins (hops_of s) (ruling_of m l s).plan.due
  unfolding ruling_by
  ruling_begins = either (λ (r : Ruling). Begun (hops_of s) r.plan) (is_fit l) read_begins tt

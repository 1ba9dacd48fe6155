-- Demand 1, for every module, link memory, message and room of every length.
use Prim.Native.Nat.{ℕ, ◌≤◌}
use Rattle.std.specs.Prelude.{Option, Some, None}
use mathlib.Core.Path.{◌≡◌, refl}
use mathlib.Core.Bool.{true, false, ◌||◌}
use mathlib.Core.List.{List}
use lib.Dec.{eqb}
use native.Mathlib.Omega.{arith}
use borrow.Author.Tests.{eqb-true}
use Rattle.std.specs.Prelude.{Result}
use Rattle.basis.specs.Choice.{choose}
use Rattle.basis.specs.Numbers.{within}
use Rattle.basis.proofs.Choice.{either, by}
use Rattle.wire.specs.declared.request.Request.{Request}
use Rattle.wire.specs.declared.command.GroupCommand.{GroupCommand}
use Rattle.wire.specs.declared.kind.MessageKind.{MessageKind}
use Rattle.wire.specs.declared.kind.Message.{Message}
use Rattle.wire.specs.Bytes.{from_of, to_of, command1_of, request_of, data_of, is_whole}
use Rattle.wire.specs.Commands.{group_command_of}
use Rattle.wire.specs.Kinds.{type_of, is_direct, is_cleanup, is_foreign, kind_of}
use Rattle.wire.specs.Checksum.{is_sum_wrong}
use Rattle.wire.specs.Reading.{read_of}
use Rattle.links.specs.declared.memory.Link.{Link}
use Rattle.links.specs.declared.search.Missing.{Missing}
use Rattle.links.specs.Record.{is_fit, records}
use Rattle.links.specs.Search.{search_of}
use Rattle.links.proofs.Following.{by_found}
use Rattle.reply.specs.declared.due.ReplyType.{ReplyType}
use Rattle.reply.specs.declared.due.Due.{Due}
use Rattle.reply.specs.Reply.{reply_of}
use Rattle.results.specs.declared.Outcome.{Outcome}
use Rattle.results.specs.Number.{number_of}
use Rattle.load.specs.declared.state.Load.{Load}
use Rattle.module.specs.declared.state.Module.{Module}
use Rattle.module.specs.declared.deed.Deed.{Deed}
use Rattle.module.specs.declared.plan.Plan.{Plan}
use Rattle.module.specs.Plan.{refused, unlinked, unlisted, deed_plan}
use Rattle.decide.specs.declared.rule.Ruling.{Ruling}
use Rattle.decide.specs.Dispatch.{deed_of, group_deed_by}
use Rattle.decide.specs.Groups.{broadcast_by, cleanup_by}
use Rattle.decide.specs.Decide.{wanted_of, direct_plan}
use Rattle.decide.specs.Ruling.{heard_by, kind_ruling, read_ruling, ruling_by, ruling_of}
use Rattle.device.specs.Step.{step_of, served_of}
use Rattle.wire.specs.Asked.{command_in}
use Rattle.promises.specs.Demand1.{Fate, carried-out, silent, not-linked, not_listed, AlwaysFated, AlwaysNumbered}

-- what a plan is that is not carried out: its refusal, by the type of its NAK and the request
pub data Fair (type : ReplyType) (r : Request) (p : Plan) : Type 0 where
  done : number_of p.outcome ≡ 0 → Fair type r p
  mute : (o : Outcome) → within 1 4 (number_of o) || eqb (number_of o) 8 ≡ true → p ≡ refused o Due.Nothing → Fair type r p
  stranger : p ≡ unlinked type r → Fair type r p
  unknown : p ≡ unlisted type r → Fair type r p

deed_fair : (m : Module) (r : Request) (deed : Deed) → Fair ReplyType.Nak r (deed_plan m r deed)
deed_fair m r (Deed.Done change ack) = done refl
deed_fair m r (Deed.Written write) = done refl
deed_fair m r Deed.Unlisted = unknown refl

cleanup_fair : (r : Request) (next : Option Load) → Fair ReplyType.CleanupNak r (cleanup_by r next)
cleanup_fair r (Some load) = done refl
cleanup_fair r None = unknown refl

broadcast_fair : (type : ReplyType) (r : Request) (next : Option Load) → Fair type r (broadcast_by next)
broadcast_fair type r (Some load) = done refl
broadcast_fair type r None = mute Outcome.Unconcerned refl refl

-- the NAK's type by the message's
module _ {r : Request} {p : Plan} (s : List ℕ) where
  as_direct : is_cleanup s ≡ false → Fair ReplyType.Nak r p → Fair (choose (is_cleanup s) ReplyType.CleanupNak ReplyType.Nak) r p
  unfolding choose
  as_direct e f = rw e f

  as_cleanup : is_cleanup s ≡ true → Fair ReplyType.CleanupNak r p → Fair (choose (is_cleanup s) ReplyType.CleanupNak ReplyType.Nak) r p
  unfolding choose
  as_cleanup e f = rw e f

-- every ruling is fair
module _ (m : Module) (l s : List ℕ) where
  abbrev pub Just : Ruling → Type 0
  Just r = Fair (choose (is_cleanup s) ReplyType.CleanupNak ReplyType.Nak) (request_of s) r.plan

  kind_fair : (d : List ℕ) → Just (kind_ruling m l d (kind_of s))
  unfolding kind_of direct_plan
  kind_fair d =
      by P (is_direct s)
      (λ e. as_direct s (not-cleanup e)
      (either (Fair ReplyType.Nak (request_of s)) _ (deed_fair m (request_of s) (deed_of m (request_of s) d (records l) (command_in s))) (stranger refl)))
      (λ e. by P (is_cleanup s)
      (λ f. as_cleanup s f
      (by_found (Fair _ _) (found (MessageKind.Cleanup (request_of s) command)) _ _
      (λ link. cleanup_fair (request_of s) (group_deed_by m.load command link)) (stranger refl)))
      (λ f. by_found (Fair _ _) (found (MessageKind.Broadcast (from_of s) (to_of s) command)) _ _
      (λ link. broadcast_fair _ _ (group_deed_by m.load command link)) unconcerned))
    where
      command : GroupCommand
      command = group_command_of (command1_of s)

      found : MessageKind → Result Link Missing
      found kind = (search_of l (wanted_of kind)).found

      unconcerned : {type : ReplyType} {r : Request} → Fair type r (refused Outcome.Unconcerned Due.Nothing)
      unconcerned = mute Outcome.Unconcerned refl refl

      P : MessageKind → Type 0
      P kind = Just (kind_ruling m l d kind)

      not-cleanup : is_direct s ≡ true → is_cleanup s ≡ false
      not-cleanup e = rw (eqb-true (type_of s) 0 e)

  read_fair : Just (read_ruling m l (heard_by m s).«data» (heard_by m s).reading)
  unfolding read_of
  read_fair =
      either Q (is_whole s)
      (either Q (is_foreign s m.identity.address) (mute Outcome.Foreign refl refl)
      (either Q (is_sum_wrong s) (mute Outcome.BadSum refl refl) (kind_fair (data_of s))))
      (mute Outcome.BadLength refl refl)
    where
      Q : Message → Type 0
      Q message = Just (read_ruling m l message.«data» message.reading)

  pub ruling_fair : Just (ruling_of m l s)
  unfolding ruling_by
  ruling_fair = either Just (is_fit l) read_fair (mute Outcome.BadMemory refl refl)

-- 1 to 4 are among 1 to 5
wider : (o : Outcome) → within 1 4 (number_of o) || eqb (number_of o) 8 ≡ true → within 1 5 (number_of o) || eqb (number_of o) 8 ≡ true
wider Outcome.Done q = q
wider Outcome.BadLength q = q
wider Outcome.BadMemory q = q
wider Outcome.Foreign q = q
wider Outcome.BadSum q = q
wider Outcome.NoRoom q = refl
wider Outcome.NotLinked q = q
wider Outcome.Unlisted q = q
wider Outcome.Unconcerned q = q

-- and a fair ruling has its stated fate
module _ (m : Module) (l s room : List ℕ) where
  sent : (r : Ruling) → Just m l s r → Fate m l s room (served_of m l (heard_by m s).«data» room (reply_of m.identity.address l r.plan.due) r)
  sent r (done e) = carried-out e
  sent r (mute o q e) = rw e (silent (wider o q) (record { same-module = refl; same_links = refl }) (record { reply = refl; room_after = refl }))
  sent r (stranger e) = rw e (not-linked refl (record { same-module = refl; same_links = refl }) (record { reply = refl; room_after = refl }))
  sent r (unknown e) = rw e (not_listed refl (record { same-module = refl; same_links = refl }) (record { reply = refl; room_after = refl }))

  has_fate : Fate m l s room (step_of m l s room)
  has_fate =
      either (Fate m l s room) _
      (silent refl (record { same-module = refl; same_links = refl }) (record { reply = refl; room_after = refl }))
      (sent (ruling_of m l s) (ruling_fair m l s))

pub fate : AlwaysFated
fate m l s room = has_fate m l s room

numbered_outcome : (o : Outcome) → number_of o ≤ 8
numbered_outcome Outcome.Done = omega arith
numbered_outcome Outcome.BadLength = omega arith
numbered_outcome Outcome.BadMemory = omega arith
numbered_outcome Outcome.Foreign = omega arith
numbered_outcome Outcome.BadSum = omega arith
numbered_outcome Outcome.NoRoom = omega arith
numbered_outcome Outcome.NotLinked = omega arith
numbered_outcome Outcome.Unlisted = omega arith
numbered_outcome Outcome.Unconcerned = omega arith

pub numbered : AlwaysNumbered
numbered m l s room = numbered_outcome (step_of m l s room).outcome

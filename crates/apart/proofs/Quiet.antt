-- What a step leaves: as many bytes of link memory, and of a broadcast the room as it was.
use Prim.Native.Nat.{ℕ, zero-le}
use Rattle.std.specs.Prelude.{Option, Some, None, Result, Ok, Err}
use mathlib.Core.Path.{◌≡◌, refl}
use mathlib.Core.Bool.{true}
use mathlib.Core.List.{List, []}
use lib.ListN.{length, take, drop}
use borrow.Author.Tests.{le-ltb}
use Rattle.basis.specs.Choice.{choose}
use Rattle.basis.proofs.Choice.{either}
use Rattle.wire.specs.declared.command.GroupCommand.{GroupCommand}
use Rattle.wire.specs.declared.kind.Message.{Message}
use Rattle.wire.specs.declared.kind.MessageKind.{MessageKind}
use Rattle.wire.specs.Bytes.{from_of, to_of, command1_of, is_whole}
use Rattle.wire.specs.Commands.{group_command_of}
use Rattle.wire.specs.Kinds.{is_broadcast, is_foreign, kind_of}
use Rattle.wire.specs.Checksum.{is_sum_wrong}
use Rattle.wire.specs.Reading.{read_of}
use Rattle.links.specs.declared.memory.Link.{Link}
use Rattle.links.specs.declared.search.Missing.{Missing}
use Rattle.links.specs.Record.{is_fit}
use Rattle.links.specs.Search.{search_of}
use Rattle.links.proofs.Written.{length_kept}
use Rattle.reply.specs.declared.due.Due.{Due}
use Rattle.load.specs.declared.state.Load.{Load}
use Rattle.module.specs.declared.state.Module.{Module}
use Rattle.module.specs.declared.deed.Write.{Write}
use Rattle.decide.specs.declared.rule.Ruling.{Ruling}
use Rattle.decide.specs.Dispatch.{group_deed_by}
use Rattle.decide.specs.Groups.{broadcast_by, broadcast_plan}
use Rattle.decide.specs.Decide.{broadcast_wanted}
use Rattle.decide.specs.Ruling.{heard_by, read_ruling, ruling_by, ruling_of}
use Rattle.device.specs.Step.{Step, links_after, served_of, step_of}
use Rattle.row.proofs.Readings.{not_direct, not-cleanup}

writing-length : (l d : List ℕ) (writing : Option Write) → length (links_after l d writing) ≡ length l
writing-length l d None = refl
writing-length l d (Some write) = length_kept l write.index (take write.count (drop 5 d))

pub same_bytes : (m : Module) (l s room : List ℕ) → length (step_of m l s room).links ≡ length l
same_bytes m l s room = either (λ (t : Step). length t.links ≡ length l) _ {y = served_of m l (heard_by m s).data room _ (ruling_of m l s)} refl (writing-length l (heard_by m s).data (ruling_of m l s).plan.writing)

-- a broadcast is never answered
deed_quiet : (next : Option Load) → (broadcast_by next).due ≡ Due.Nothing
deed_quiet (Some load) = refl
deed_quiet None = refl

plan_quiet : (m : Module) (command : GroupCommand) (found : Result Link Missing) → (broadcast_plan m.load command found).due ≡ Due.Nothing
plan_quiet m command (Ok link) = deed_quiet (group_deed_by m.load command link)
plan_quiet m command (Err e) = refl

module _ (m : Module) (l s room : List ℕ) (b : is_broadcast s ≡ true) where
  abbrev Quiet : Message → Type 0
  Quiet h = (read_ruling m l h.«data» h.reading).plan.due ≡ Due.Nothing

  kind : kind_of s ≡ MessageKind.Broadcast (from_of s) (to_of s) (group_command_of (command1_of s))
  unfolding kind_of choose
  kind = rw (not_direct s b, not-cleanup s b)

  heard_quiet : Quiet (read_of s m.identity.address)
  unfolding read_of
  heard_quiet =
      either Quiet (is_whole s)
      (either Quiet (is_foreign s m.identity.address) refl
      (either Quiet (is_sum_wrong s) refl (rw kind (plan_quiet m (group_command_of (command1_of s)) (search_of l (broadcast_wanted (from_of s) (to_of s) (group_command_of (command1_of s)))).found))))
      refl

  nothing_due : (ruling_of m l s).plan.due ≡ Due.Nothing
  unfolding ruling_by
  nothing_due = either (λ (r : Ruling). r.plan.due ≡ Due.Nothing) (is_fit l) heard_quiet refl

  pub no_reply : (step_of m l s room).reply ≡ []
  unfolding choose
  no_reply = rw (nothing_due, le-ltb (length room) 0 zero-le)

  pub same_room : (step_of m l s room).room ≡ room
  unfolding choose
  same_room = rw (nothing_due, le-ltb (length room) 0 zero-le)

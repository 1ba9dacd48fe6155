-- Whom a message makes the module look for, and what comes of what was found ("Direct commands", "Groups").
use Rattle.std.specs.Prelude.{ℕ, Bool, true, false, ◌||◌, List, Result, Option, Some, None, is_ok}
use Rattle.basis.specs.Choice.{choose}
use Rattle.wire.specs.declared.address.Address.{Address}
use Rattle.wire.specs.declared.request.Request.{Request}
use Rattle.wire.specs.declared.command.Standard.{Standard}
use Rattle.wire.specs.declared.command.Command.{Command}
use Rattle.wire.specs.declared.command.GroupCommand.{GroupCommand}
use Rattle.wire.specs.declared.kind.MessageKind.{MessageKind}
use Rattle.links.specs.declared.search.Wanted.{Wanted}
use Rattle.links.specs.declared.memory.Link.{Link}
use Rattle.links.specs.declared.search.Missing.{Missing}
use Rattle.reply.specs.declared.due.ReplyType.{ReplyType}
use Rattle.reply.specs.declared.due.Due.{Due}
use Rattle.results.specs.declared.Outcome.{Outcome}
use Rattle.module.specs.declared.state.Module.{Module}
use Rattle.module.specs.declared.plan.Plan.{Plan}
use Rattle.module.specs.Plan.{refused, unlinked, deed_plan}
use Rattle.decide.specs.Dispatch.{deed_of}
use Rattle.decide.specs.Groups.{is_call, broadcast_plan, cleanup_plan}

-- standard 0F and 10 need no link; nothing else is exempt
abbrev pub is_open : Standard → Bool
is_open (Standard.Open command) = true
is_open (Standard.Module command) = false
is_open Standard.Load = false

abbrev pub needs_no_link : Command → Bool
needs_no_link (Command.Standard command) = is_open command
needs_no_link (Command.Extended command) = false

abbrev pub direct_wanted : Request → Command → Option Wanted
direct_wanted r command = choose (needs_no_link command) None (Some (Wanted.Sender r.from))

-- a cleanup has its group in Command 2
abbrev pub sender_in_group : Request → Option Wanted
sender_in_group r = Some (Wanted.Responder r.from r.command2)

abbrev pub broadcast_wanted : Address → Address → GroupCommand → Option Wanted
broadcast_wanted from to command = choose (is_call to command) (Some (Wanted.Responder from to.low)) None

-- whose record the search looks for
abbrev pub wanted_of : MessageKind → Option Wanted
wanted_of (MessageKind.Direct r command) = direct_wanted r command
wanted_of (MessageKind.Cleanup r command) = sender_in_group r
wanted_of (MessageKind.Broadcast from to command) = broadcast_wanted from to command
wanted_of MessageKind.Foreign = None

-- a direct command, with the data bytes beside it and n records in link memory
unfoldable pub direct_plan : Module → Request → List ℕ → ℕ → Command → Result Link Missing → Plan
direct_plan m r d n command found = choose (needs_no_link command || is_ok found) (deed_plan m r (deed_of m r d n command)) (unlinked ReplyType.Nak r)

abbrev pub plan_of : Module → MessageKind → List ℕ → ℕ → Result Link Missing → Plan
plan_of m (MessageKind.Direct r command) d n found = direct_plan m r d n command found
plan_of m (MessageKind.Cleanup r command) d n found = cleanup_plan m.load r command found
plan_of m (MessageKind.Broadcast from to command) d n found = broadcast_plan m.load command found
plan_of m MessageKind.Foreign d n found = refused Outcome.Foreign Due.Nothing

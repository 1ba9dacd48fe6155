-- "Groups".
use Rattle.std.specs.Prelude.{Bool, false, ◌&&◌, eqb, Result, Option, Some, None}
use Rattle.wire.specs.declared.address.Address.{Address}
use Rattle.wire.specs.declared.request.Request.{Request}
use Rattle.wire.specs.declared.command.GroupCommand.{GroupCommand}
use Rattle.links.specs.declared.memory.Link.{Link}
use Rattle.links.specs.declared.search.Missing.{Missing}
use Rattle.links.specs.Search.{if_found}
use Rattle.reply.specs.declared.due.ReplyType.{ReplyType}
use Rattle.reply.specs.declared.due.Due.{Due}
use Rattle.results.specs.declared.Outcome.{Outcome}
use Rattle.load.specs.declared.state.Load.{Load}
use Rattle.module.specs.declared.change.Change.{Change}
use Rattle.module.specs.declared.plan.Plan.{Plan}
use Rattle.reply.specs.Message.{headed}
use Rattle.module.specs.Plan.{done, refused, unlinked, unlisted}
use Rattle.decide.specs.Dispatch.{group_deed_by}

-- a broadcast calls a group: To = 00 00 group, Command 1 in 11 to 14
abbrev pub is_call : Address → GroupCommand → Bool
is_call to GroupCommand.On = eqb to.high 0x00 && eqb to.middle 0x00
is_call to GroupCommand.Off = eqb to.high 0x00 && eqb to.middle 0x00
is_call to GroupCommand.Unlisted = false

-- result 8
abbrev pub unconcerned : Plan
unconcerned = refused Outcome.Unconcerned Due.Nothing

-- a broadcast is never answered
abbrev pub broadcast_by : Option Load → Plan
broadcast_by (Some load) = done (Change.Load load) Due.Nothing
broadcast_by None = unconcerned

abbrev pub broadcast_plan : Load → GroupCommand → Result Link Missing → Plan
broadcast_plan load command found = if_found found (λ link. broadcast_by (group_deed_by load command link)) unconcerned

-- a cleanup is ACKed with both commands; no record gives 6, then Command 1 outside 11 to 14 gives 7
abbrev pub cleanup_by : Request → Option Load → Plan
cleanup_by r (Some load) = done (Change.Load load) (Due.Alone (headed ReplyType.CleanupAck r r.command1 r.command2))
cleanup_by r None = unlisted ReplyType.CleanupNak r

abbrev pub cleanup_plan : Load → Request → GroupCommand → Result Link Missing → Plan
cleanup_plan load r command found = if_found found (λ link. cleanup_by r (group_deed_by load command link)) (unlinked ReplyType.CleanupNak r)

-- The first round: whose addresses are noted, and who is to be served then.
use Rattle.std.specs.Prelude.{ℕ, ◌/◌, List, ltb, get_or, replicate, Result, Ok, Err}
use Rattle.basis.specs.Choice.{choose}
use Rattle.wire.specs.declared.address.Address.{Address}
use Rattle.wire.specs.declared.kind.MessageKind.{MessageKind}
use Rattle.wire.specs.declared.kind.Unread.{Unread}
use Rattle.wire.specs.declared.kind.Message.{Message}
use Rattle.wire.specs.Bytes.{no_name}
use Rattle.results.specs.declared.Outcome.{Outcome}
use Rattle.row.specs.declared.outcome.ClassOutcome.{ClassOutcome}
use Rattle.row.specs.declared.progress.Whom.{Whom}
use Rattle.row.specs.declared.progress.ClassAnswer.{ClassAnswer}
use Rattle.row.specs.declared.progress.Round.{Round}
use Rattle.row.specs.declared.progress.Scope.{Scope}
use Rattle.row.specs.declared.progress.Task.{Task}
use Rattle.row.specs.declared.progress.Progress.{Progress}
use Rattle.row.specs.Answer.{silent_for, silent}
use Rattle.row.specs.Row.{is_row_fit, seat_named, is_doubled}

-- no turn is left
abbrev pub ended : Progress → ClassAnswer → Progress
ended t answer = record { seat = t.task.seats; answer = answer; round = t.round; names = t.names; task = t.task }

-- whom a message is for, as far as its reading tells
abbrev pub scope_of_kind : MessageKind → Scope
scope_of_kind (MessageKind.Direct r command) = Scope.One
scope_of_kind (MessageKind.Cleanup r command) = Scope.One
scope_of_kind (MessageKind.Broadcast from to command) = Scope.All
scope_of_kind MessageKind.Foreign = Scope.Unheard

abbrev pub scope_of : Result MessageKind Unread → Scope
scope_of (Ok kind) = scope_of_kind kind
scope_of (Err Unread.BadLength) = Scope.Ill
scope_of (Err Unread.BadSum) = Scope.One

-- what stays during a message to n seats, with shares of w bytes
abbrev pub task_of : ℕ → ℕ → Message → Task
task_of n w heard = record { seats = n; share = w; scope = scope_of heard.reading; to = heard.to }

abbrev pub begun : ℕ → Task → Progress
begun seat task = record { seat = seat; answer = silent ClassOutcome.Unfit; round = Round.Note; names = replicate 16 no_name; task = task }

unfoldable pub opened : ℕ → ℕ → Message → Progress
opened n bytes heard = choose (is_row_fit n bytes) (begun 0 (task_of n (bytes / n) heard)) (begun n (task_of n 0 heard))

-- the address noted for a seat
abbrev pub name_in : List Address → ℕ → Address
name_in names i = get_or names i no_name

-- the second round, from a seat on
abbrev pub second_round : Progress → ℕ → Round → Whom → Progress
second_round t seat round whom =
    record { seat = seat; answer = silent_for whom (ClassOutcome.Single Outcome.Unconcerned); round = round; names = t.names; task = t.task }

abbrev pub addressed : Progress → Progress
addressed t =
    let seat : ℕ = seat_named (name_in t.names) t.task.seats t.task.to in
    choose (ltb seat t.task.seats) (second_round t seat Round.One (Whom.Seat seat)) (ended t (silent ClassOutcome.NoSeat))

abbrev pub by_scope : Progress → Scope → Progress
by_scope t Scope.Ill = ended t (silent (ClassOutcome.Single Outcome.BadLength))
by_scope t Scope.Unheard = ended t (silent (ClassOutcome.Single Outcome.Foreign))
by_scope t Scope.One = addressed t
by_scope t Scope.All = second_round t 0 Round.All Whom.All

abbrev pub settled : Progress → Progress
settled t =
    choose (is_doubled (name_in t.names) t.task.seats) (ended t (silent ClassOutcome.Doubled)) (by_scope t t.task.scope)

-- all addresses at once
abbrev pub all_named : List Address → Progress → Progress
all_named names t = record { seat = t.task.seats; answer = t.answer; round = t.round; names = names; task = t.task }

unfoldable pub noticed : List Address → ℕ → ℕ → Message → Progress
noticed names n bytes heard =
    let t : Progress = opened n bytes heard in
    choose (ltb t.seat n) (settled (all_named names t)) t

-- a row over sixteen, which has no turns, is refused here too
abbrev pub settled_if_few : Progress → Progress
settled_if_few t = choose (ltb 16 t.task.seats) (ended t (silent ClassOutcome.Unfit)) (settled t)

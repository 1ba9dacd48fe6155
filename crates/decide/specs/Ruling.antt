-- What is decided of a message, in the order of refusals 2, 1, 3, 4, 8, 6, 7 ("Result numbers").
use Rattle.std.specs.Prelude.{ℕ, List, Result, Ok, Err}
use Rattle.basis.specs.Choice.{choose}
use Rattle.wire.specs.declared.kind.MessageKind.{MessageKind}
use Rattle.wire.specs.declared.kind.Unread.{Unread}
use Rattle.wire.specs.declared.kind.Message.{Message}
use Rattle.wire.specs.Reading.{read_of}
use Rattle.links.specs.declared.search.Searched.{Searched}
use Rattle.links.specs.Record.{is_fit, records}
use Rattle.links.specs.Search.{search_of}
use Rattle.reply.specs.declared.due.Due.{Due}
use Rattle.results.specs.declared.Outcome.{Outcome}
use Rattle.module.specs.declared.state.Module.{Module}
use Rattle.module.specs.Plan.{refused}
use Rattle.decide.specs.declared.rule.Ruling.{Ruling}
use Rattle.decide.specs.Decide.{wanted_of, plan_of}

-- the message as the module m reads it
abbrev pub heard_by : Module → List ℕ → Message
heard_by m s = read_of s m.identity.address

-- no search was made, and nothing is sent
abbrev pub silence : Outcome → Ruling
silence outcome = record { plan = refused outcome Due.Nothing; read = 0 }

-- by what the search that the kind asks for found; 3 where the kind is none of our business
abbrev pub found_ruling : Module → List ℕ → List ℕ → MessageKind → Searched → Ruling
found_ruling m l d kind searched = record { plan = plan_of m kind d (records l) searched.found; read = searched.read }

abbrev pub kind_ruling : Module → List ℕ → List ℕ → MessageKind → Ruling
kind_ruling m l d kind = found_ruling m l d kind (search_of l (wanted_of kind))

abbrev pub read_ruling : Module → List ℕ → List ℕ → Result MessageKind Unread → Ruling
read_ruling m l d (Ok kind) = kind_ruling m l d kind
read_ruling m l d (Err Unread.BadLength) = silence Outcome.BadLength
read_ruling m l d (Err Unread.BadSum) = silence Outcome.BadSum

-- of a message as it was read
unfoldable pub ruling_by : Module → List ℕ → Message → Ruling
ruling_by m l message = choose (is_fit l) (read_ruling m l message.«data» message.reading) (silence Outcome.BadMemory)

abbrev pub ruling_of : Module → List ℕ → List ℕ → Ruling
ruling_of m l s = ruling_by m l (heard_by m s)

-- Tables of examples: what goes in and all that comes out, a row each, and one statement over a table.
use Rattle.std.specs.Prelude.{ℕ, ◌≡◌, List, map}
use Rattle.results.specs.Number.{number_of}
use Rattle.module.specs.declared.state.Module.{Module}
use Rattle.device.specs.Step.{Step}
use Rattle.device.specs.Run.{Call, State, call_of}

-- all that comes out of a call, with the paper's number of the outcome
pub record Out : Type 0 where
  pub number : ℕ
  pub sent : List ℕ
  pub read : ℕ
  pub next : Module
  pub links : List ℕ
  pub room : List ℕ

abbrev pub out_of : Step → Out
out_of t = record { number = number_of t.outcome; sent = t.reply; read = t.read; next = t.next; links = t.links; room = t.room }

pub record Example : Type 0 where
  pub start : State
  pub call : Call
  pub out : Out

-- module, link memory, message, room; then number, reply, records read, module, link memory, room
abbrev pub row : Module → List ℕ → List ℕ → List ℕ → ℕ → List ℕ → ℕ → Module → List ℕ → List ℕ → Example
row m l message given number sent read next links after =
    record {
      start = record { device = m; links = l };
      call = record { message = message; room = given };
      out = record { number = number; sent = sent; read = read; next = next; links = links; room = after };
    }

-- every row comes out as it says
abbrev pub AllRight : List Example → Type 0
AllRight examples = map (λ (e : Example). out_of (call_of e.start e.call)) examples ≡ map (λ (e : Example). e.out) examples

-- One message to whoever sits there: one module alone, or a class in the first places of its row.
use Rattle.std.specs.Prelude.{ℕ, ◌≡◌, List, [], ◌∷◌, length, get_or}
use Rattle.wire.specs.Bytes.{no_name}
use Rattle.results.specs.Number.{number_of}
use Rattle.load.specs.declared.state.Load.{Load}
use Rattle.module.specs.declared.state.Module.{Module}
use Rattle.device.specs.Step.{Step, step_of}
use Rattle.row.specs.declared.progress.Whom.{Whom}
use Rattle.row.specs.Number.{class_number_of}
use Rattle.class.specs.Class.{ClassStep}
use Rattle.class.specs.Seats.{seats_of}
use Rattle.seating.specs.declared.heed.Seating.{Seating}
use Rattle.seating.specs.declared.heed.Heeded.{Heeded}

-- all that comes out of a message; `row` is who sits there afterwards
pub record Heed : Type 0 where
  pub number : ℕ
  pub reply : List ℕ
  pub read : ℕ
  pub whom : Whom
  pub row : List Module
  pub links : List ℕ
  pub room : List ℕ

-- what stands past the last place
abbrev pub blank : Module
blank =
    record {
      identity = record { address = no_name; category = 0; subcategory = 0; firmware = 0; revision = 0 };
      flags = 0;
      led = 0;
      house = 0;
      unit = 0;
      delta = 0;
      load = Load.Dimmer (record { level = 0; ramp = 0; on_level = 0 });
    }

abbrev pub first_in : List Module → Module
first_in row = get_or row 0 blank

abbrev pub by_step : Step → Heed
by_step t =
    record {
      number = number_of t.outcome;
      reply = t.reply;
      read = t.read;
      whom = Whom.Seat 0;
      row = t.next ∷ [];
      links = t.links;
      room = t.room;
    }

abbrev pub alone_of : Module → List ℕ → List ℕ → List ℕ → Heed
alone_of m l message room = by_step (step_of m l message room)

abbrev pub by_class : ClassStep → Heed
by_class t =
    record {
      number = class_number_of t.outcome;
      reply = t.reply;
      read = t.read;
      whom = t.whom;
      row = t.row;
      links = t.links;
      room = t.room;
    }

abbrev pub class_heed : List Module → ℕ → List ℕ → List ℕ → List ℕ → Heed
class_heed row count l message room = by_class (seats_of row count l message room)

unfoldable pub heed_of : Seating → List ℕ → List ℕ → List ℕ → Heed
heed_of (Seating.Alone m) l message room = alone_of m l message room
heed_of (Seating.Class row count) l message room = class_heed row count l message room

-- the same seats, with other modules in them
abbrev pub seated_with : Seating → List Module → Seating
seated_with (Seating.Alone m) row = Seating.Alone (first_in row)
seated_with (Seating.Class before count) row = Seating.Class row count

-- what a call promises: its answer, link memory and room afterwards
pub record Heeds (t : Heed) (s : Seating) (r : Heeded) (links room : List ℕ) : Type 0 where
  pub number : r.number ≡ t.number
  pub sent : r.length ≡ length t.reply
  pub read : r.read ≡ t.read
  pub whom : r.whom ≡ t.whom
  pub next : r.next ≡ seated_with s t.row
  pub memory : links ≡ t.links
  pub room_after : room ≡ t.room

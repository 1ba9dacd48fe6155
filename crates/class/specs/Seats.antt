-- A row by value, in the first n of sixteen places.
use Rattle.std.specs.Prelude.{ℕ, List, ◌++◌, ltb, take, drop}
use Rattle.basis.specs.Choice.{choose}
use Rattle.module.specs.declared.state.Module.{Module}
use Rattle.row.specs.declared.outcome.ClassOutcome.{ClassOutcome}
use Rattle.class.specs.declared.seats.SeatsAnswer.{SeatsAnswer}
use Rattle.class.specs.Class.{ClassStep, refused_by, class_of, ClassComes}

-- the places behind the row stay
abbrev pub first_of : List Module → ℕ → List ℕ → List ℕ → List ℕ → ClassStep
first_of seats n l s room =
    let t : ClassStep = class_of (take n seats) l s room in
    record {
      outcome = t.outcome;
      reply = t.reply;
      read = t.read;
      whom = t.whom;
      row = t.row ++ drop n seats;
      links = t.links;
      room = t.room;
    }

-- more seats than there are places: result 11
abbrev pub seats_of : List Module → ℕ → List ℕ → List ℕ → List ℕ → ClassStep
seats_of seats n l s room = choose (ltb 16 n) (refused_by ClassOutcome.Unfit seats l room) (first_of seats n l s room)

abbrev pub SeatsCome : ClassStep → SeatsAnswer → List ℕ → List ℕ → Type 0
SeatsCome t r links room = ClassComes t r.answer r.seats links room

-- One message to the class that images hold: the class's step, or 255 and nothing altered.
use Rattle.std.specs.Prelude.{ℕ, Bool, ◌&&◌, List, [], ◌∷◌, leb, length}
use Rattle.basis.specs.Choice.{choose}
use Rattle.basis.specs.Laid.{laid}
use Rattle.row.specs.Number.{class_number_of}
use Rattle.class.specs.Class.{ClassStep, class_of}
use Rattle.embed_class.specs.Row.{is_row, row_of, stored_row}
use Rattle.image.specs.Returned.{Returned}

-- so many images and nothing else, and a report of two numbers or more
abbrev pub seated : List ℕ → ℕ → List ℕ → Bool
seated images count report = is_row count images && leb 2 (length report)

-- each seat's image has that seat's values afterwards; the report begins with the reply's length and the records read
abbrev pub class_reported : List ℕ → List ℕ → ClassStep → Returned
class_reported images report t =
    record {
      number = class_number_of t.outcome;
      image = stored_row t.row images;
      links = t.links;
      room = t.room;
      report = laid (length t.reply ∷ t.read ∷ []) report;
    }

unfoldable pub class_returned_of : List ℕ → ℕ → List ℕ → List ℕ → List ℕ → List ℕ → Returned
class_returned_of images count links message room report =
    choose (seated images count report) (class_reported images report (class_of (row_of count images) links message room))
    (record { number = 255; image = images; links = links; room = room; report = report })

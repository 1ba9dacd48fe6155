-- One message to the module that an image holds: the step of the paper, or 255 and nothing altered.
use Rattle.std.specs.Prelude.{ℕ, Bool, ◌&&◌, List, [], ◌∷◌, leb, length}
use Rattle.basis.specs.Choice.{choose}
use Rattle.basis.specs.Laid.{laid}
use Rattle.results.specs.Number.{number_of}
use Rattle.device.specs.Step.{Step, step_of}
use Rattle.image.specs.Image.{is_image, module_of, stored_in}
use Rattle.image.specs.Returned.{Returned}

-- an image, and a report of two numbers or more
abbrev pub placed : List ℕ → List ℕ → Bool
placed image report = is_image image && leb 2 (length report)

-- the module afterwards is stored in the image; the report begins with the reply's length and the records read
abbrev pub reported : List ℕ → List ℕ → Step → Returned
reported image report t =
    record {
      number = number_of t.outcome;
      image = stored_in image t.next;
      links = t.links;
      room = t.room;
      report = laid (length t.reply ∷ t.read ∷ []) report;
    }

unfoldable pub returned_of : List ℕ → List ℕ → List ℕ → List ℕ → List ℕ → Returned
returned_of image links message room report =
    choose (placed image report) (reported image report (step_of (module_of image) links message room))
    (record { number = 255; image = image; links = links; room = room; report = report })

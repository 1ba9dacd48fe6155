-- What the call to a class comes to, by its parts.
use Prim.Native.Nat.{ℕ, ◌≤◌, ◌<◌}
use native.Mathlib.Omega.{arith}
use mathlib.Core.Path.{◌≡◌}
use mathlib.Core.Bool.{true, false}
use Rattle.std.proofs.lemmas.Bool.Decides.{nat_tests}
use borrow.Author.Tests.{le-leb}
use Rattle.image.specs.Returned.{Returned}
use Rattle.embed_class.specs.ClassCall.{class_reported, class_returned_of}
use mathlib.Core.List.{List}
use lib.ListN.{length}
use Rattle.basis.specs.Choice.{choose}
use Rattle.basis.proofs.Laid.{fits}
use Rattle.row.specs.declared.outcome.ClassOutcome.{ClassOutcome}
use Rattle.class.specs.Class.{refused_by, class_of}
use Rattle.row.proofs.Fit.{crowded}
use Rattle.embed_class.specs.Row.{is_row, row_of, stored_row}
use Rattle.embed_class.proofs.Images.{row_images, row_count}
use Rattle.embed_class.proofs.Stored.{row_stays}

module _ (images : List ℕ) (count : ℕ) (links message room report : List ℕ) where
  abbrev outcome : Returned
  outcome = class_returned_of images count links message room report

  -- nothing is altered
  abbrev unfit : Returned
  unfit = record { number = 255; image = images; links = links; room = room; report = report }

  pub no_images : is_row count images ≡ false → outcome ≡ unfit
  unfolding class_returned_of choose
  no_images e = rw e

  pub no_report : length report < 2 → outcome ≡ unfit
  unfolding class_returned_of choose
  no_report h = grind (arith, nat_tests)

  module _ (row : is_row count images ≡ true) where
    pub fitting : 2 ≤ length report → outcome ≡ class_reported images report (class_of (row_of count images) links message room)
    unfolding class_returned_of choose
    fitting h = rw (row, le-leb 2 (length report) h)

    -- more than sixteen are refused
    pub crowd : 16 < count → class_of (row_of count images) links message room ≡ refused_by ClassOutcome.Unfit (row_of count images) links room
    unfolding class_of choose
    crowd many = rw (crowded (length (row_of count images)) (length links) (rw (row_count count images) many))

    -- and what the images hold leaves them as they stand
    pub stays : stored_row (row_of count images) images ≡ images
    stays = row_stays count images (row_images count images row)

-- step by step
pub ruleset call_steps = (no_images, no_report, fitting, crowd, stays, fits)

-- An image from one call to the next.
use mathlib.Core.Path.{sym, ◌∙◌, ap}
use mathlib.Core.List.{List}
use native.Mathlib.Omega.{arith}
use lib.Dec.{leb}
use lib.ListN.{length}
use Rattle.basis.specs.Choice.{choose}
use Rattle.basis.proofs.Tests.{both}
use Rattle.module.specs.declared.state.Module.{Module}
use Rattle.device.specs.Step.{step_of}
use Rattle.class.specs.Class.{class_of}
use Rattle.image.specs.Image.{is_image, module_of, stored_in}
use Rattle.image.proofs.Whole as whole
use Rattle.embed.specs.Call.{returned_of}
use Rattle.embed.proofs.Served.{next_own}
use Rattle.embed_class.specs.Row.{is_row, row_of, image_in}
use Rattle.embed_class.specs.ClassCall.{class_returned_of}
use Rattle.embed_class.proofs.Images.{row_images, row_count}
use Rattle.embed_class.proofs.Stored.{image_at, row_fits, row_stays}
use Rattle.embed_class.proofs.Left.{many, fit_after, still_row, held_after}
use Rattle.around.specs.Image.{WholeModule, NothingElse, WholeRow, OthersKept}

pub whole_module : WholeModule
unfolding returned_of choose
whole_module image links message room report h =
    let own = next_own image links message room (both (is_image image) (leb 2 (length report)) h).0 in
    let next : Module = (step_of (module_of image) links message room).next in
    rw h ((whole.stays_own image next own).is_one, whole.whole_module image next own)

pub nothing_else : NothingElse
nothing_else = whole.its_own

pub whole_row : WholeRow
unfolding class_returned_of choose
whole_row images count links message room report h =
    let row = (both (is_row count images) (leb 2 (length report)) h).0 in
    rw h (still_row images count links message room row, held_after images count links message room row)

pub others_kept : OthersKept
unfolding class_returned_of choose
others_kept images count links message room report k h inside same =
    let row = (both (is_row count images) (leb 2 (length report)) h).0 in
    let before : List Module = row_of count images in
    let after : List Module = (class_of before links message room).row in
    let now = image_at after images k (fit_after images count links message room row) (omega (arith, inside, many images count links message room row)) in
    let then = image_at before images k (row_fits count images (row_images count images row)) (omega (arith, inside, row_count count images)) in
    let stays = ap (image_in k) (row_stays count images (row_images count images row)) in
    rw h (now ∙ ap (stored_in (image_in k images)) same ∙ sym then ∙ stays)

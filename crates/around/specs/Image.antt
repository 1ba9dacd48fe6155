-- What a caller of another language keeps.
use Rattle.std.specs.Prelude.{ℕ, ◌<◌, ◌≡◌, true, List}
use Rattle.device.specs.Step.{step_of}
use Rattle.class.specs.Seat.{seat_at}
use Rattle.class.specs.Class.{class_of}
use Rattle.image.specs.Image.{is_image, module_of, stored_in}
use Rattle.embed.specs.Call.{placed, returned_of}
use Rattle.embed_class.specs.Row.{is_row, row_of, image_in}
use Rattle.embed_class.specs.ClassCall.{seated, class_returned_of}

-- an image holds the whole module, of either kind: what one call leaves is what the next one finds
abbrev pub WholeModule : Type 0
WholeModule = (image links message room report : List ℕ) → placed image report ≡ true
    → (let after : List ℕ = (returned_of image links message room report).image in
    (is_image after ≡ true) × (module_of after ≡ (step_of (module_of image) links message room).next))

-- and nothing but the module: one that is as it was leaves every byte as it stands
abbrev pub NothingElse : Type 0
NothingElse = (image : List ℕ) → is_image image ≡ true → stored_in image (module_of image) ≡ image

-- so do the images of a class
abbrev pub WholeRow : Type 0
WholeRow = (images : List ℕ) (count : ℕ) (links message room report : List ℕ) → seated images count report ≡ true
    → (let after : List ℕ = (class_returned_of images count links message room report).image in
    (is_row count after ≡ true) × (row_of count after ≡ (class_of (row_of count images) links message room).row))

-- in which a seat that is as it was keeps every byte, whoever else was served
abbrev pub OthersKept : Type 0
OthersKept = (images : List ℕ) (count : ℕ) (links message room report : List ℕ) (k : ℕ) → seated images count report ≡ true → k < count
    → seat_at (class_of (row_of count images) links message room).row k ≡ seat_at (row_of count images) k
    → image_in k (class_returned_of images count links message room report).image ≡ image_in k images

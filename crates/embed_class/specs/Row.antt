-- A row of modules as bytes: their images, each directly behind the one before it, so that seat k's is its share of the bytes.
use Rattle.std.specs.Prelude.{ℕ, zero, suc, ◌*◌, Bool, true, ◌&&◌, List, [], ◌∷◌, ◌++◌, eqb, length, take, drop}
use Rattle.wire.specs.declared.address.Address.{Address}
use Rattle.module.specs.declared.state.Module.{Module}
use Rattle.class.specs.Seat.{share_at, with_share}
use Rattle.image.specs.Places.{LENGTH}
use Rattle.image.specs.Image.{is_image, module_of, stored_in}

-- image k, and the bytes with x in its place
abbrev pub image_in : ℕ → List ℕ → List ℕ
image_in k s = share_at LENGTH k s

abbrev pub with_image : ℕ → List ℕ → List ℕ → List ℕ
with_image k x s = with_share LENGTH k x s

-- each of the first k is an image
unfoldable pub are_images : ℕ → List ℕ → Bool
are_images zero s = true
are_images (suc k) s = is_image (take LENGTH s) && are_images k (drop LENGTH s)

-- these bytes are so many images, and nothing else
unfoldable pub is_row : ℕ → List ℕ → Bool
is_row count s = eqb (length s) (count * LENGTH) && are_images count s

-- the modules that they hold
unfoldable pub row_of : ℕ → List ℕ → List Module
row_of zero s = []
row_of (suc k) s = module_of (take LENGTH s) ∷ row_of k (drop LENGTH s)

-- and the images in which the modules of a row were stored, each in its own
unfoldable pub stored_row : List Module → List ℕ → List ℕ
stored_row [] s = s
stored_row (m ∷ row) s = stored_in (take LENGTH s) m ++ stored_row row (drop LENGTH s)

-- the address of the module that an image holds
abbrev pub address_in : List ℕ → Address
address_in s = (module_of s).identity.address

-- the addresses of a row
unfoldable pub names_of : List Module → List Address
names_of [] = []
names_of (m ∷ row) = m.identity.address ∷ names_of row

-- Images one behind the other, and the modules that they hold.
use Prim.Native.Nat.{ℕ, zero, suc, ◌+◌, ◌*◌}
use mathlib.Core.Path.{◌≡◌, refl, sym, ◌∙◌, ap}
use mathlib.Core.Bool.{Bool, true, false, ◌&&◌}
use mathlib.Core.List.{List}
use native.Mathlib.Omega.{arith}
use Rattle.std.specs.Simd.{first_chunks}
use Rattle.std.specs.List.{list_all}
use lib.Dec.{eqb}
use lib.ListN.{length, take, drop}
use lib.Seq.{drop-drop}
use borrow.Author.Tests.{eqb-true, eq-eqb, ne_eqb}
use Rattle.basis.proofs.Tests.{both}
use Rattle.image.specs.Places.{LENGTH}
use Rattle.image.specs.Image.{is_image}
use Rattle.embed_class.specs.Row.{are_images, is_row, row_of}

-- what a row is
pub row_length : (k : ℕ) (s : List ℕ) → is_row k s ≡ true → length s ≡ k * LENGTH
unfolding is_row
row_length k s h = eqb-true (length s) (k * LENGTH) (both (eqb (length s) (k * LENGTH)) (are_images k s) h).0

pub row_images : (k : ℕ) (s : List ℕ) → is_row k s ≡ true → are_images k s ≡ true
unfolding is_row
row_images k s h = (both (eqb (length s) (k * LENGTH)) (are_images k s) h).1

pub no_row : (k : ℕ) (s : List ℕ) → (length s ≡ k * LENGTH → ⊥) → is_row k s ≡ false
unfolding is_row
no_row k s other = rw (ne_eqb (length s) (k * LENGTH) other)

pub row_by_images : (k : ℕ) (s : List ℕ) → length s ≡ k * LENGTH → is_row k s ≡ are_images k s
unfolding is_row
row_by_images k s n = rw (eq-eqb (length s) (k * LENGTH) n)

-- cut image by image
pub all_chunks : (k : ℕ) (s : List ℕ) → list_all (λ image. is_image image) (first_chunks LENGTH k s) ≡ are_images k s
unfolding are_images
all_chunks zero s = refl
all_chunks (suc k) s = ap (λ (rest : Bool). is_image (take LENGTH s) && rest) (all_chunks k (drop LENGTH s))

-- it holds as many modules as it has images
pub row_count : (k : ℕ) (s : List ℕ) → length (row_of k s) ≡ k
unfolding row_of
row_count zero s = refl
row_count (suc k) s = ap suc (row_count k _)

-- the first image is one, and behind it the others are
pub first_image : (k : ℕ) (s : List ℕ) → are_images (suc k) s ≡ true → is_image (take LENGTH s) ≡ true
unfolding are_images
first_image k s h = (both (is_image (take LENGTH s)) (are_images k (drop LENGTH s)) h).0

pub later_images : (k : ℕ) (s : List ℕ) → are_images (suc k) s ≡ true → are_images k (drop LENGTH s) ≡ true
unfolding are_images
later_images k s h = (both (is_image (take LENGTH s)) (are_images k (drop LENGTH s)) h).1

-- image k + 1 is image k of what stands behind the first
pub past_first : (k : ℕ) (s : List ℕ) → drop (suc k * LENGTH) s ≡ drop (k * LENGTH) (drop LENGTH s)
past_first k s =
    let e : suc k * LENGTH ≡ LENGTH + k * LENGTH = omega arith in
    ap (λ (n : ℕ). drop n s) e ∙ sym (drop-drop (k * LENGTH) LENGTH s)

-- Modules stored in images one behind the other.
use Prim.Native.Nat.{ℕ, zero, suc, ◌+◌, ◌*◌, ◌<◌}
use mathlib.Core.Path.{◌≡◌, refl, sym, ◌∙◌, ap}
use mathlib.Core.Bool.{true}
use mathlib.Core.List.{List, [], ◌∷◌, ◌++◌, append_assoc}
use native.Mathlib.Nat.{not-suc-le-zero}
use native.Mathlib.Omega.{arith}
use lib.ListN.{length, take, drop, set, length-append, take-append-drop}
use lib.Seq.{take_at, drop_at, take-append-add, drop-append-add}
use Rattle.module.specs.declared.state.Module.{Module}
use Rattle.class.specs.Seat.{seat_at}
use Rattle.image.specs.Places.{LENGTH}
use Rattle.image.specs.Image.{is_image, module_of, values, stored_in}
use Rattle.image.proofs.Values.{values_length}
use Rattle.image.proofs.Whole.{Own, long, its_own, holds, stays_own, whole_module}
use Rattle.embed_class.specs.Row.{image_in, with_image, are_images, row_of, stored_row}
use Rattle.embed_class.proofs.Images.{first_image, later_images, past_first}

-- each module of a row is of the kind and identity of its image
unfoldable pub Fit : List Module → List ℕ → Type 0
Fit [] s = Unit {0}
Fit (m ∷ row) s = Own (take LENGTH s) m × Fit row (drop LENGTH s)

-- those that the images hold are
pub row_fits : (k : ℕ) (s : List ℕ) → are_images k s ≡ true → Fit (row_of k s) s
unfolding row_of Fit
row_fits zero s h = tt
row_fits (suc k) s h = (holds (take LENGTH s) (first_image k s h), row_fits k (drop LENGTH s) (later_images k s h))

-- and stored they leave every byte as it stands
pub row_stays : (k : ℕ) (s : List ℕ) → are_images k s ≡ true → stored_row (row_of k s) s ≡ s
unfolding row_of stored_row
row_stays zero s h = refl
row_stays (suc k) s h =
    let first = its_own (take LENGTH s) (first_image k s h) in
    let later = row_stays k (drop LENGTH s) (later_images k s h) in
    (λ j. first j ++ later j) ∙ take-append-drop LENGTH s

-- an image in which a module was stored is as long as every image
wide : (s : List ℕ) (m : Module) → Own s m → length (stored_in s m) ≡ LENGTH
wide s m o = values_length (values m) s ∙ long s o.is_one

-- what stands behind the first image, once modules were stored
behind_first : (m : Module) (row : List Module) (s : List ℕ) (k : ℕ) → Own (take LENGTH s) m
    → drop (suc k * LENGTH) (stored_row (m ∷ row) s) ≡ drop (k * LENGTH) (stored_row row (drop LENGTH s))
unfolding stored_row
behind_first m row s k o =
    let x : List ℕ = stored_in (take LENGTH s) m in
    let e : suc k * LENGTH ≡ length x + k * LENGTH = omega (arith, wide (take LENGTH s) m o) in
    ap (λ (n : ℕ). drop n (x ++ stored_row row (drop LENGTH s))) e ∙ drop-append-add x (stored_row row (drop LENGTH s)) (k * LENGTH)

-- a seat's module and its image
pub own_at : (row : List Module) (s : List ℕ) (k : ℕ) → Fit row s → k < length row → Own (image_in k s) (seat_at row k)
unfolding Fit
own_at [] s k f h = absurd (not-suc-le-zero h)
own_at (m ∷ row) s zero f h = f.0
own_at (m ∷ row) s (suc k) f h = rw (past_first k s) (own_at row (drop LENGTH s) k f.1 (omega arith))

-- image k has the values of seat k
pub image_at : (row : List Module) (s : List ℕ) (k : ℕ) → Fit row s → k < length row
    → image_in k (stored_row row s) ≡ stored_in (image_in k s) (seat_at row k)
unfolding Fit stored_row
image_at [] s k f h = absurd (not-suc-le-zero h)
image_at (m ∷ row) s zero f h = take_at (stored_in (take LENGTH s) m) (stored_row row (drop LENGTH s)) LENGTH (wide (take LENGTH s) m f.0)
image_at (m ∷ row) s (suc k) f h =
    ap (take LENGTH) (behind_first m row s k f.0)
    ∙ image_at row (drop LENGTH s) k f.1 (omega arith)
    ∙ ap (λ (z : List ℕ). stored_in (take LENGTH z) (seat_at row k)) (sym (past_first k s))

-- and another module's, once that one was stored there
pub put_at : (row : List Module) (s : List ℕ) (k : ℕ) (m : Module) → Fit row s → k < length row
    → with_image k (stored_in (image_in k s) m) (stored_row row s) ≡ stored_row (set row k m) s
unfolding Fit stored_row
put_at [] s k m f h = absurd (not-suc-le-zero h)
put_at (x ∷ row) s zero m f h =
    ap (λ (z : List ℕ). stored_in (take LENGTH s) m ++ z) (drop_at (stored_in (take LENGTH s) x) (stored_row row (drop LENGTH s)) LENGTH (wide (take LENGTH s) x f.0))
put_at (x ∷ row) s (suc k) m f h =
    let y : List ℕ = stored_in (take LENGTH s) x in
    let later : List ℕ = stored_row row (drop LENGTH s) in
    let new : List ℕ → List ℕ = λ z. stored_in (take LENGTH z) m in
    let e : suc k * LENGTH ≡ length y + k * LENGTH = omega (arith, wide (take LENGTH s) x f.0) in
    let front = ap (λ (n : ℕ). take n (y ++ later)) e ∙ take-append-add y later (k * LENGTH) in
    let rest = behind_first x row s k f.0 in
    (λ j. front j ++ (new (past_first k s j) ++ drop LENGTH (rest j)))
    ∙ append_assoc y (take (k * LENGTH) later) _
    ∙ ap (λ (z : List ℕ). y ++ z) (put_at row (drop LENGTH s) k m f.1 (omega arith))

-- a module of the image's kind and identity may sit there
pub fit_set : (row : List Module) (s : List ℕ) (k : ℕ) (m : Module) → Fit row s → Own (image_in k s) m → Fit (set row k m) s
unfolding Fit
fit_set [] s k m f o = tt
fit_set (x ∷ row) s zero m f o = (o, f.1)
fit_set (x ∷ row) s (suc k) m f o = (f.0, fit_set row (drop LENGTH s) k m f.1 (rw (past_first k s) at o))

-- what was stored is held, seat by seat, in images that stay so
pub row_back : (row : List Module) (s : List ℕ) → Fit row s → row_of (length row) (stored_row row s) ≡ row
unfolding Fit row_of stored_row
row_back [] s f = refl
row_back (m ∷ row) s f =
    let x : List ℕ = stored_in (take LENGTH s) m in
    let later : List ℕ = stored_row row (drop LENGTH s) in
    let n = wide (take LENGTH s) m f.0 in
    let it = ap module_of (take_at x later LENGTH n) ∙ whole_module (take LENGTH s) m f.0 in
    let others = ap (row_of (length row)) (drop_at x later LENGTH n) ∙ row_back row (drop LENGTH s) f.1 in
    λ i. it i ∷ others i

pub still_images : (row : List Module) (s : List ℕ) → Fit row s → are_images (length row) (stored_row row s) ≡ true
unfolding Fit are_images stored_row
still_images [] s f = refl
still_images (m ∷ row) s f =
    let x : List ℕ = stored_in (take LENGTH s) m in
    let later : List ℕ = stored_row row (drop LENGTH s) in
    let n = wide (take LENGTH s) m f.0 in
    let one = ap is_image (take_at x later LENGTH n) ∙ (stays_own (take LENGTH s) m f.0).is_one in
    let others = ap (are_images (length row)) (drop_at x later LENGTH n) ∙ still_images row (drop LENGTH s) f.1 in
    rw (one, others) refl

pub as_long : (row : List Module) (s : List ℕ) → Fit row s → length (stored_row row s) ≡ length s
unfolding Fit stored_row
as_long [] s f = refl
as_long (m ∷ row) s f =
    let first = values_length (values m) (take LENGTH s) in
    length-append (stored_in (take LENGTH s) m) (stored_row row (drop LENGTH s))
    ∙ (λ j. first j + as_long row (drop LENGTH s) f.1 j)
    ∙ sym (length-append (take LENGTH s) (drop LENGTH s))
    ∙ ap length (take-append-drop LENGTH s)

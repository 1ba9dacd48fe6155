-- What a call to a class leaves of the images.
use Prim.Native.Nat.{ℕ}
use mathlib.Core.Path.{◌≡◌, sym, ◌∙◌, ap}
use mathlib.Core.Bool.{true}
use mathlib.Core.List.{List, [], ◌∷◌}
use lib.ListN.{length, drop}
use Rattle.module.specs.declared.state.Module.{Module}
use Rattle.class.specs.Class.{class_of}
use Rattle.class.proofs.Lasting.{SameSeats, none, next, as_many, same_seats}
use Rattle.image.specs.Places.{LENGTH}
use Rattle.embed_class.specs.Row.{are_images, is_row, row_of, stored_row}
use Rattle.embed_class.proofs.Images.{row_images, row_length, row_count, row_by_images}
use Rattle.embed_class.proofs.Stored.{Fit, row_fits, row_back, still_images, as_long}

-- modules of the same kinds and identities fit the same images
fit_same : (row other : List Module) (s : List ℕ) → SameSeats row other → Fit other s → Fit row s
unfolding Fit
fit_same [] [] s none f = f
fit_same [] (x ∷ other) s h f = elim h [ ]
fit_same (m ∷ row) [] s h f = elim h [ ]
fit_same (m ∷ row) (x ∷ other) s (next e k rest) f =
    (record { is_one = f.0.is_one; who = e ∙ f.0.who; of_kind = k ∙ f.0.of_kind }, fit_same row other (drop LENGTH s) rest f.1)

module _ (images : List ℕ) (count : ℕ) (links message room : List ℕ) (h : is_row count images ≡ true) where
  abbrev after : List Module
  after = (class_of (row_of count images) links message room).row

  pub many : length after ≡ count
  many = as_many after (row_of count images) (same_seats (row_of count images) links message room) ∙ row_count count images

  -- the row afterwards fits the images
  pub fit_after : Fit after images
  fit_after = fit_same after (row_of count images) images (same_seats (row_of count images) links message room) (row_fits count images (row_images count images h))

  -- which are a row still, and hold it
  pub still_row : is_row count (stored_row after images) ≡ true
  still_row =
      let long = as_long after images fit_after ∙ row_length count images h in
      row_by_images count (stored_row after images) long
      ∙ ap (λ (k : ℕ). are_images k (stored_row after images)) (sym many)
      ∙ still_images after images fit_after

  pub held_after : row_of count (stored_row after images) ≡ after
  held_after = ap (λ (k : ℕ). row_of k (stored_row after images)) (sym many) ∙ row_back after images fit_after

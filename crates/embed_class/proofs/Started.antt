-- Where a message to a row of images stands before the first turn.
use Prim.Native.Nat.{ℕ, zero, suc, ◌/◌, ◌<◌}
use mathlib.Core.Path.{◌≡◌, refl, sym, ◌∙◌, ap, subst}
use mathlib.Core.Bool.{true}
use mathlib.Core.List.{List, [], ◌∷◌, map}
use native.Mathlib.Omega.{arith}
use lib.ListN.{length, get_or, take}
use Rattle.std.specs.Simd.{first_chunks}
use lib.Seq.{get_or-take}
use Rattle.wire.specs.declared.address.Address.{Address}
use Rattle.wire.specs.declared.kind.Message.{Message}
use Rattle.wire.specs.Bytes.{no_name}
use Rattle.wire.specs.Reading.{heard_in}
use Rattle.module.specs.declared.state.Module.{Module}
use Rattle.row.specs.declared.progress.Progress.{Progress}
use Rattle.class.specs.Seat.{name_at}
use Rattle.class.specs.Class.{ClassStep, class_of}
use Rattle.row.specs.Round.{name_in, noticed}
use Rattle.class.proofs.Runs.{Runs}
use Rattle.class.proofs.Rounds.{notices}
use Rattle.row.proofs.Noticed.{due}
use Rattle.embed_class.specs.Row.{address_in, is_row, row_of, names_of}
use Rattle.image.specs.Places.{LENGTH}
use Rattle.device.proofs.Counted.{most_read}
use Rattle.embed_class.proofs.Images.{row_length, row_images, row_count}
use Rattle.embed_class.proofs.Named.{named}
use Rattle.embed_class.proofs.Stored.{row_fits, row_stays}
use Rattle.embed_class.proofs.Standing.{Standing, Awaits, awaits}

named_at : (row : List Module) (j : ℕ) → get_or (names_of row) j no_name ≡ name_at row j
unfolding names_of
named_at [] j = refl
named_at (m ∷ row) zero = refl
named_at (m ∷ row) (suc j) = named_at row j

-- addresses taken from the images are those of the seats
agree : (names : List Address) (count : ℕ) (row : List Module) → length row ≡ count → take count names ≡ names_of row
    → (j : ℕ) → j < length row → name_in names j ≡ name_at row j
agree names count row many e j inside =
    sym (get_or-take count names j no_name (omega (arith, many, inside)))
    ∙ ap (λ (z : List Address). get_or z j no_name) e
    ∙ named_at row j

module _ (names : List Address) (count : ℕ) (images l s room : List ℕ) (row_is : is_row count images ≡ true) (named : take count names ≡ names_of (row_of count images)) where
  abbrev row : List Module
  row = row_of count images

  abbrev target : ClassStep
  target = class_of row l s room

  abbrev At : Message → Progress → Type 0
  At heard t = Standing target heard (length l) count t images images l room t.seat t.answer

  base : At (heard_in s) (noticed names count (length l) (heard_in s))
  base =
      let all = row_images count images row_is in
      let many = row_count count images in
      let g = notices row l s room names (agree names count row many named) in
      let d = due names count (length l) (heard_in s) in
      record {
        row = row;
        many = many;
        fit = row_fits count images all;
        held = sym (row_stays count images all);
        left = g.left;
        runs = subst (λ (n : ℕ). Runs target (heard_in s) (length l) g.left row (noticed names n (length l) (heard_in s)) l room) many g.runs;
        seats = d.seats;
        serves = d.serves;
      }

  starts : (heard : Message) (t : Progress) → heard ≡ heard_in s → t ≡ noticed names count (length l) heard → At heard t
  starts heard t h e =
      subst (At heard) (sym e)
      (subst (λ (x : Message). At x (noticed names count (length l) x)) (sym h) base)

-- where the addresses were noted image by image
module _ (images : List ℕ) (count : ℕ) (l s room : List ℕ) (heard : Message) (t : Progress) (row_is : is_row count images ≡ true) where
  abbrev all : ClassStep
  all = class_of (row_of count images) l s room

  module _ (each : List (List ℕ)) (front : each ≡ first_chunks LENGTH (length images / LENGTH) images) (names : List Address) (noted : take (length each) names ≡ map address_in each)
      (h : heard ≡ heard_in s) (e : t ≡ noticed names count (length l) heard) where
    pub begins : Awaits all heard (length l) count t images images l room t.seat t.answer
    begins =
        awaits _ _ _ _ _ _ _ _ _ _ _ (starts names count images l s room row_is (named count images (row_length count images row_is) each front names noted) heard t h e)

-- turn by turn
pub ruleset row_steps = (row_length, most_read)

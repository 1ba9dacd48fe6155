-- What the call comes to, by its parts.
use Prim.Native.Nat.{ℕ, ◌≤◌}
use mathlib.Core.Path.{◌≡◌, refl, ◌∙◌, ap}
use mathlib.Core.Bool.{true, false}
use mathlib.Core.List.{List, [], ◌∷◌}
use lib.ListN.{length}
use borrow.Author.Tests.{le-leb}
use Rattle.basis.specs.Choice.{choose}
use Rattle.basis.specs.Laid.{laid, laid_if_fits}
use Rattle.basis.proofs.Laid.{fits}
use Rattle.results.specs.Number.{number_of}
use Rattle.device.specs.declared.step.Answer.{Answer}
use Rattle.device.specs.Step.{step_of, Comes}
use Rattle.device.proofs.Lasting.{same_identity, same_kind}
use Rattle.image.specs.Image.{is_image, module_of, stored_in, stored_if_own}
use Rattle.image.specs.Returned.{Returns}
use Rattle.image.proofs.Whole.{Own, holds, own}
use Rattle.embed.specs.Call.{placed, returned_of}

module _ (image links message room report : List ℕ) where
  pub refused : placed image report ≡ false → Returns (returned_of image links message room report) 255 image links room report
  unfolding returned_of choose
  refused e = rw e (record { number = refl; image-after = refl; links-after = refl; room_after = refl; report-after = refl })

-- the module afterwards is of the image's kind and identity
pub next_own : (image links message room : List ℕ) → is_image image ≡ true → Own image (step_of (module_of image) links message room).next
next_own image links message room n =
    record {
      is_one = n;
      who = same_identity (module_of image) links message room;
      of_kind = same_kind (module_of image) links message room ∙ (holds image n).of_kind;
    }

module _ (image links message room report : List ℕ) (n : is_image image ≡ true) where
  module _ (answer : Answer) (links' room' : List ℕ) (p : Comes (step_of (module_of image) links message room) answer links' room') where
    stored : stored_if_own image answer.next ≡ stored_in image (step_of (module_of image) links message room).next
    stored = ap (stored_if_own image) p.next ∙ own image _ n (next_own image links message room n).of_kind

    pub served : (image' report' : List ℕ) (r : ℕ) → 2 ≤ length report → image' ≡ stored_if_own image answer.next
        → report' ≡ laid_if_fits report (answer.length ∷ answer.read ∷ []) → r ≡ number_of answer.outcome
        → Returns (returned_of image links message room report) r image' links' room' report'
    unfolding returned_of choose
    served image' report' r h i told q =
        rw (n, le-leb 2 (length report) h)
        (record {
          number = q ∙ ap number_of p.outcome;
          image-after = i ∙ stored;
          links-after = p.memory;
          room_after = p.room_after;
          report-after = told ∙ fits report (answer.length ∷ answer.read ∷ []) h ∙ (λ j. laid (p.sent j ∷ p.read j ∷ []) report);
        })

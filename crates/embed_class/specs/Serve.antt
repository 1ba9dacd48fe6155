-- What a seat that is held as an image makes of a message, with its own share of link memory.
use Rattle.std.specs.Prelude.{ℕ, ◌≡◌, Bool, true, false, List, length}
use Rattle.wire.specs.declared.kind.Message.{Message}
use Rattle.device.specs.declared.step.Answer.{Answer}
use Rattle.device.specs.Step.{Step, step_by}
use Rattle.row.specs.declared.progress.Round.{Round}
use Rattle.row.specs.declared.progress.ClassAnswer.{ClassAnswer}
use Rattle.class.specs.Seat.{share_at, with_share}
use Rattle.class.specs.Class.{ClassStep, ClassComes}
use Rattle.image.specs.Image.{module_of, stored_if_own}
use Rattle.embed_class.specs.Row.{image_in, with_image, stored_row}

-- the step of seat k
abbrev pub seat_step_in : ℕ → ℕ → List ℕ → List ℕ → Message → List ℕ → Step
seat_step_in w k images l heard room = step_by (module_of (image_in k images)) (share_at w k l) heard room

-- its outcome, and what it leaves in image k, in share k and in the room
pub record SeatComes (w k : ℕ) (images l : List ℕ) (heard : Message) (room : List ℕ) (r : Answer) (images' l' room' : List ℕ) : Type 0 where
  pub outcome : r.outcome ≡ (seat_step_in w k images l heard room).outcome
  pub sent : r.length ≡ length (seat_step_in w k images l heard room).reply
  pub read : r.read ≡ (seat_step_in w k images l heard room).read
  pub image-after : images' ≡ with_image k (stored_if_own (image_in k images) (seat_step_in w k images l heard room).next) images
  pub share-after : l' ≡ with_share w k (seat_step_in w k images l heard room).links l
  pub room_after : room' ≡ (seat_step_in w k images l heard room).room

abbrev pub is_for_all : Round → Bool
is_for_all Round.Note = false
is_for_all Round.One = false
is_for_all Round.All = true

-- a message to the whole row: the class's step, and its row stored in the images
pub record RowComes (before : List ℕ) (t : ClassStep) (r : ClassAnswer) (images links room : List ℕ) : Type 0 where
  pub comes : ClassComes t r t.row links room
  pub images-after : images ≡ stored_row t.row before

-- What sending a reply comes to: its length, and the room afterwards.
use Rattle.std.specs.Prelude.{ℕ, ◌≡◌, List, Result, Ok, Err, ltb, length}
use Rattle.basis.specs.Choice.{choose}
use Rattle.basis.specs.Laid.{laid_if_fits}
use Rattle.reply.specs.declared.send.TooShort.{TooShort}

-- a room shorter than the whole reply is too short
unfoldable pub sent_of : List ℕ → List ℕ → Result ℕ TooShort
sent_of room reply = choose (ltb (length room) (length reply)) (Err (record {})) (Ok (length reply))

-- the answer, and the room afterwards
pub record Sending (reply room : List ℕ) (answer : Result ℕ TooShort) (after : List ℕ) : Type 0 where
  pub answers : answer ≡ sent_of room reply
  pub leaves : after ≡ laid_if_fits room reply

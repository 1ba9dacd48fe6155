-- What a call from another language comes to: a number, and what it leaves of all that it was lent.
use Rattle.std.specs.Prelude.{ℕ, ◌≡◌, List}

pub record Returned : Type 0 where
  pub number : ℕ
  pub image : List ℕ
  pub links : List ℕ
  pub room : List ℕ
  pub report : List ℕ

-- what a call promises: its number, and all that it leaves
pub record Returns (x : Returned) (r : ℕ) (image links room report : List ℕ) : Type 0 where
  pub number : r ≡ x.number
  pub image-after : image ≡ x.image
  pub links-after : links ≡ x.links
  pub room_after : room ≡ x.room
  pub report-after : report ≡ x.report

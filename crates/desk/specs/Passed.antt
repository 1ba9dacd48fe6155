-- How far a desk has come with what has arrived ("The program").
use Rattle.std.specs.Prelude.{◌≡◌, ℕ, ◌≤◌, true, List, [], ◌++◌, length, take, drop}
use Rattle.seating.specs.Sat.{heed_all, sat_after}
use Rattle.modem.specs.Stream.{cut, calls_in}
use Rattle.desk.specs.declared.answer.Desk.{Desk}
use Rattle.desk.specs.declared.serve.Progress.{Progress}
use Rattle.desk.specs.Desk.{sat_at}
use Rattle.desk.specs.Tally.{counted_all}

-- the frames of s that stand before what is left were served, each once and in their order
pub record Passed (before : Desk) (l room s : List ℕ) (after : Desk) (links left : List ℕ) : Type 0 where
  pub served : List (List ℕ)
  pub frames : (cut s).frames ≡ served ++ (cut left).frames
  pub kept : (cut s).kept ≡ (cut left).kept
  pub state : sat_at after links ≡ sat_after (sat_at before l) (calls_in room served)
  pub tally : after.tally ≡ counted_all before.tally (heed_all (sat_at before l) (calls_in room served))

-- no whole frame, and no byte that can be skipped
abbrev pub Unfinished : List ℕ → Type 0
Unfinished s = cut s ≡ record { frames = []; kept = s }

-- as many bytes are done with as are counted; a desk that is still open has served every whole frame
pub record ArrivedPromise (before : Desk) (l room s : List ℕ) (p : Progress) (links : List ℕ) : Type 0 where
  pub inside : p.count ≤ length s
  pub passed : Passed before l room s p.desk links (drop p.count s)
  pub all : p.desk.is_open ≡ true → Unfinished (drop p.count s)

-- as many bytes as are counted are left, at the start of what is held
pub record HeldPromise (before : Desk) (l room s : List ℕ) (p : Progress) (links held : List ℕ) : Type 0 where
  pub inside : p.count ≤ length held
  pub passed : Passed before l room s p.desk links (take p.count held)
  pub all : p.desk.is_open ≡ true → Unfinished (take p.count held)

-- some bytes are read behind those that were left
pub record ReadPromise (before : Progress) (l room held : List ℕ) (p : Progress) (links held' : List ℕ) : Type 0 where
  pub read : List ℕ
  pub served : HeldPromise before.desk l room (take before.count held ++ read) p links held'

-- of all that was read, frames were served in their order, as far as the desk came
pub record EndPromise (before : Desk) (l room links : List ℕ) : Type 0 where
  pub read : List ℕ
  pub after : Desk
  pub left : List ℕ
  pub passed : Passed before l room read after links left

-- A desk, and one frame at it ("The program").
use Rattle.std.specs.Prelude.{◌≡◌, ℕ, ◌*◌, ◌<◌, ◌≤◌, true, false, List, length, take, replicate}
use Rattle.seating.specs.declared.heed.Seating.{Seating}
use Rattle.seating.specs.declared.heed.Heeded.{Heeded}
use Rattle.seating.specs.Heed.{Heed}
use Rattle.seating.specs.Sat.{Sat, heed_in, sat_by}
use Rattle.modem.specs.Frames.{framed}
use Rattle.modem.specs.Serve.{heeded_of}
use Rattle.modem.specs.Stream.{call_in}
use Rattle.desk.specs.declared.answer.Desk.{Desk}
use Rattle.desk.specs.declared.answer.Left.{Left}
use Rattle.text.specs.declared.tally.Tally.{Tally}
use Rattle.desk.specs.Tally.{counted}

-- who sits there, beside link memory
abbrev pub sat_at : Desk → List ℕ → Sat
sat_at desk l = record { seating = desk.seating; links = l }

-- no frame is counted
abbrev pub blank_tally : Tally
blank_tally = record { results = replicate 12 0; seats = replicate 16 0; every = 0; nobody = 0 }

-- nothing has been served, and a frame may come
abbrev pub fresh_desk : Seating → Desk
fresh_desk seating = record { seating = seating; tally = blank_tally; is_open = true }

abbrev pub open_with : Seating → Tally → Desk
open_with seating tally = record { seating = seating; tally = tally; is_open = true }

-- what a frame leaves, with the counts beside it
abbrev pub left_with : Left → Tally → Desk
left_with left tally = record { seating = left.seating; tally = tally; is_open = left.is_open }

abbrev pub closed_of : Desk → Desk
closed_of desk = record { seating = desk.seating; tally = desk.tally; is_open = false }

-- the seats and the link memory that a message leaves, and what came of it counted
pub record Answered (before : Desk) (l : List ℕ) (t : Heed) (after : Desk) (links : List ℕ) : Type 0 where
  pub state : sat_at after links ≡ sat_by (sat_at before l) t
  pub tally : after.tally ≡ counted before.tally t

-- a frame is served where the frames of any reply fit; else nothing is altered, and the desk is closed
pub record AnswerPromise (before : Desk) (l frame room out : List ℕ) (after : Desk) (links : List ℕ) : Type 0 where
  pub served : 2 * length room < length out → Answered before l (heed_in (sat_at before l) (call_in room frame)) after links
  pub cramped : length out ≤ 2 * length room → (after ≡ closed_of before) × (links ≡ l)

-- what is handed on for a frame: its message's reply, which stands in the room, and the frames of it, which stand in `out`
pub record Handed (frame : List ℕ) (h : Heeded) (sent : ℕ) (room out : List ℕ) : Type 0 where
  pub state : Sat
  pub lent : List ℕ
  pub answer : h ≡ heeded_of state.seating (heed_in state (call_in lent frame))
  pub reply : take h.length room ≡ (heed_in state (call_in lent frame)).reply
  pub frames : take sent out ≡ framed (take h.length room)

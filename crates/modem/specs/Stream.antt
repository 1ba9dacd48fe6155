-- What serving a list of bytes comes to, frame after frame ("The program").
use Rattle.std.specs.Prelude.{ℕ, zero, suc, ◌+◌, List, [], ◌∷◌, ◌++◌, map, length, take, drop}
use Rattle.device.specs.Step.{Step}
use Rattle.device.specs.Run.{Call, State, run_of, end_of}
use Rattle.modem.specs.declared.arrived.Seen.{Seen}
use Rattle.modem.specs.Arrived.{seek_of}
use Rattle.modem.specs.Frames.{framed}

-- the whole frames of what has arrived, in their order, and the bytes that are kept until more arrive
pub record Cut : Type 0 where
  pub frames : List (List ℕ)
  pub kept : List ℕ

-- by what is seen first; what stands behind a frame is cut in turn
abbrev pub cut_at : List ℕ → (List ℕ → Cut) → Seen → Cut
cut_at s rest (Seen.Whole k n) =
    record { frames = take n (drop k s) ∷ (rest (drop (k + n) s)).frames; kept = (rest (drop (k + n) s)).kept }
cut_at s rest (Seen.Waiting k) = record { frames = []; kept = drop k s }

-- into n frames or fewer
unfoldable pub cut_by : ℕ → List ℕ → Cut
cut_by zero s = record { frames = []; kept = s }
cut_by (suc n) s = cut_at s (cut_by n) (seek_of s)

-- there are no more frames than bytes
abbrev pub cut : List ℕ → Cut
cut s = cut_by (length s) s

-- the message behind a frame's two bytes, with a reply room
abbrev pub call_in : List ℕ → List ℕ → Call
call_in room frame = record { message = drop 2 frame; room = room }

-- one room is lent again and again
abbrev pub calls_in : List ℕ → List (List ℕ) → List Call
calls_in room frames = map (call_in room) frames

-- what is written for each frame, the module and link memory that all of them leave, and the bytes kept
pub record Stream : Type 0 where
  pub written : List (List ℕ)
  pub state : State
  pub kept : List ℕ

abbrev pub written_for : Step → List ℕ
written_for t = framed t.reply

abbrev pub stream_of : State → List ℕ → List ℕ → Stream
stream_of st room s =
    record {
      written = map written_for (run_of st (calls_in room (cut s).frames));
      state = end_of st (calls_in room (cut s).frames);
      kept = (cut s).kept;
    }

-- a second piece, behind what was kept of the first
abbrev pub go_on : List ℕ → Stream → List ℕ → Stream
go_on room first q =
    let second : Stream = stream_of first.state room (first.kept ++ q) in
    record { written = first.written ++ second.written; state = second.state; kept = second.kept }

-- Replies as frames ("The program").
use Rattle.std.specs.Prelude.{ℕ, zero, suc, min, List, [], ◌∷◌, ◌++◌, length, take, drop}
use Rattle.basis.specs.Choice.{choose}
use Rattle.wire.specs.Bytes.{is_extended}

-- 02 50 before a standard message, 02 51 before an extended one
abbrev pub marker_of : List ℕ → ℕ
marker_of message = choose (is_extended message) 0x51 0x50

abbrev pub frame_of : List ℕ → List ℕ
frame_of message = 0x02 ∷ marker_of message ∷ message

-- how many bytes of a reply are its first message
abbrev pub message_size : List ℕ → ℕ
message_size s = min (length s) (choose (is_extended s) 23 9)

-- the frames of n messages or fewer
unfoldable pub framed_by : ℕ → List ℕ → List ℕ
framed_by zero s = []
framed_by (suc n) [] = []
framed_by (suc n) (x ∷ s) =
    let k : ℕ = message_size (x ∷ s) in
    frame_of (take k (x ∷ s)) ++ framed_by n (drop k (x ∷ s))

-- of a whole reply, which has no more messages than bytes
abbrev pub framed : List ℕ → List ℕ
framed s = framed_by (length s) s

-- One whole frame to whoever sits there ("The program").
use Rattle.std.specs.Prelude.{ℕ, Option, None, Some, ◌*◌, ◌≡◌, Bool, List, ltb, length, drop}
use Rattle.basis.specs.Choice.{choose}
use Rattle.basis.specs.Laid.{laid}
use Rattle.seating.specs.declared.heed.Seating.{Seating}
use Rattle.seating.specs.declared.heed.Heeded.{Heeded}
use Rattle.seating.specs.Heed.{Heed, seated_with, heed_of}
use Rattle.modem.specs.declared.serve.Served.{Served}
use Rattle.modem.specs.Frames.{framed}

-- all that comes out of a frame
pub record Turn : Type 0 where
  pub served : Option Served
  pub links : List ℕ
  pub room : List ℕ
  pub out : List ℕ

abbrev pub heeded_of : Seating → Heed → Heeded
heeded_of s t = record { number = t.number; length = length t.reply; read = t.read; whom = t.whom; next = seated_with s t.row }

-- the message behind the two bytes of its frame is heeded, and the reply goes out in frames
abbrev pub done_of : Seating → List ℕ → Heed → Turn
done_of s out t =
    record {
      served = Some (record { heeded = heeded_of s t; sent = length (framed t.reply) });
      links = t.links;
      room = t.room;
      out = laid (framed t.reply) out;
    }

-- more than twice the reply room holds the frames of any reply
abbrev pub ample : List ℕ → List ℕ → Bool
ample room out = ltb (2 * length room) (length out)

-- else no frame is served
unfoldable pub turn_of : Seating → List ℕ → List ℕ → List ℕ → List ℕ → Turn
turn_of s l frame room out =
    choose (ample room out) (done_of s out (heed_of s l (drop 2 frame) room))
    (record { served = None; links = l; room = room; out = out })

pub record ServePromise (s : Seating) (l frame room out : List ℕ) (r : Option Served) (links room' out' : List ℕ) : Type 0 where
  pub served : r ≡ (turn_of s l frame room out).served
  pub links-after : links ≡ (turn_of s l frame room out).links
  pub room_after : room' ≡ (turn_of s l frame room out).room
  pub out-after : out' ≡ (turn_of s l frame room out).out

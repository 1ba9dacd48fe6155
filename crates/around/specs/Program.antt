-- The program: frames on standard input, and replies in the same frames ("The program").
use Rattle.std.specs.Prelude.{ℕ, ◌/◌, ◌%◌, ◌≤◌, ◌<◌, ◌≡◌, true, false, length, get_or}
use mathlib.Core.List.{List, [], ◌∷◌, ◌++◌, map, flatten}
use Rattle.wire.specs.Bytes.{flags_of, is_whole}
use Rattle.links.specs.Record.{is_fit}
use Rattle.module.specs.declared.state.Module.{Module}
use Rattle.device.specs.Step.{step_of}
use Rattle.device.specs.Run.{State}
use Rattle.modem.specs.Arrived.{stops_at}
use Rattle.modem.specs.Frames.{frame_of, framed}
use Rattle.roster.specs.declared.word.Kind.{Kind}
use Rattle.roster.specs.Seat.{bench_of}
use Rattle.modem.specs.Stream.{cut, stream_of, go_on}

-- frames may arrive in pieces of any size: what is written, the state and what is kept do not hang on where they are cut
abbrev pub InPieces : Type 0
InPieces = (st : State) (room p q : List ℕ) → stream_of st room (p ++ q) ≡ go_on room (stream_of st room p) q

-- with any fit links.bin, input 02 50 AA BB CC 00 10 3A 0F 0F 00 gives exactly 02 50 00 10 3A AA BB CC 2F 0F 00
abbrev pub PingAlways : Type 0
PingAlways =
    (l room : List ℕ) → is_fit l ≡ true → 9 ≤ length room →
    stream_of (record { device = bench_of Kind.Dimmer; links = l }) room
    (0x02 ∷ 0x50 ∷ 0xaa ∷ 0xbb ∷ 0xcc ∷ 0x00 ∷ 0x10 ∷ 0x3a ∷ 0x0f ∷ 0x0f ∷ 0x00 ∷ []) ≡
    record {
      written = (0x02 ∷ 0x50 ∷ 0x00 ∷ 0x10 ∷ 0x3a ∷ 0xaa ∷ 0xbb ∷ 0xcc ∷ 0x2f ∷ 0x0f ∷ 0x00 ∷ []) ∷ [];
      state = record { device = bench_of Kind.Dimmer; links = l };
      kept = [];
    }

-- the frames of a reply are its messages, each in its frame
abbrev pub FramesAreMessages : Type 0
FramesAreMessages =
    (ms : List (List ℕ)) → ((i : ℕ) → i < length ms → is_whole (get_or ms i []) ≡ true) →
    framed (flatten ms) ≡ flatten (map frame_of ms)

-- whole messages, each directly after the one before it, with fresh hops: as hops left, bits 3 and 2 of its flags, and as the largest
-- count, bits 1 and 0, each has the largest count of the message s
pub record Messages (s reply : List ℕ) : Type 0 where
  pub messages : List (List ℕ)
  pub joined : reply ≡ flatten messages
  pub whole : (i : ℕ) → i < length messages → is_whole (get_or messages i []) ≡ true
  pub left : (i : ℕ) → i < length messages → flags_of (get_or messages i []) / 4 % 4 ≡ flags_of s % 4
  pub largest : (i : ℕ) → i < length messages → flags_of (get_or messages i []) % 4 ≡ flags_of s % 4

-- every reply is so
abbrev pub RepliesAreMessages : Type 0
RepliesAreMessages = (m : Module) (l s room : List ℕ) → Messages s (step_of m l s room).reply

-- a byte that doesn't start a frame is skipped alone
abbrev pub SkippedAlone : Type 0
SkippedAlone = (x : ℕ) (s : List ℕ) → stops_at (x ∷ s) 0 ≡ false → cut (x ∷ s) ≡ cut s

-- 02 50 and a standard message, or 02 51 and an extended one
pub data Frame (f : List ℕ) : Type 0 where
  standard : get_or f 0 0 ≡ 0x02 → get_or f 1 0 ≡ 0x50 → length f ≡ 11 → Frame f
  extended : get_or f 0 0 ≡ 0x02 → get_or f 1 0 ≡ 0x51 → length f ≡ 25 → Frame f

-- bytes in which these frames stand one behind the other, others before each of them, and at the end the bytes kept
pub data Holds : List ℕ → List (List ℕ) → List ℕ → Type 0 where
  end : {s : List ℕ} (skipped kept : List ℕ) → s ≡ skipped ++ kept → Holds s [] kept
  next : {s rest kept : List ℕ} {frames : List (List ℕ)} (skipped frame : List ℕ) → s ≡ skipped ++ (frame ++ rest) → Frame frame
      → Holds rest frames kept
      → Holds s (frame ∷ frames) kept

-- a frame cut by the end of input is dropped: what is served stands whole in the input, and what is kept, less than a frame, stands behind it
abbrev pub EndDrops : Type 0
EndDrops = (s : List ℕ) → Holds s (cut s).frames (cut s).kept × (length (cut s).kept < 25)

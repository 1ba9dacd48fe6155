-- The program, whatever arrives and however it is cut.
use Prim.Native.Nat.{ℕ, ◌+◌, ◌<◌}
use mathlib.Core.Path.{◌≡◌, refl, sym, ◌∙◌, ap}
use mathlib.Core.Bool.{Bool, true, false, ◌||◌, or-false}
use mathlib.Core.List.{List, [], ◌++◌, map, map-append, flatten}
use native.Mathlib.Nat.{add-zero}
use native.Mathlib.Omega.{arith}
use lib.Dec.{eqb}
use lib.ListN.{length, take, drop, get_or, length-drop, take-append-drop}
use lib.Seq.{length-take-le, get_or-take, get_or-drop, drop-drop}
use borrow.Author.Tests.{eqb-true, le-ltb}
use Rattle.basis.specs.Choice.{choose}
use Rattle.basis.specs.First.{first_from}
use Rattle.basis.proofs.Tests.{both}
use Rattle.basis.proofs.Choice.{either}
use Rattle.wire.specs.declared.address.Address.{Address}
use Rattle.wire.specs.Bytes.{hops_of}
use Rattle.wire.specs.Commands.{standards}
use Rattle.wire.specs.Kinds.{kind_of}
use Rattle.wire.specs.Reading.{read_of}
use Rattle.reply.specs.declared.due.Due.{Due}
use Rattle.reply.proofs.Messages.{messages_of, joined, Each, none, each_sound}
use Rattle.decide.specs.Decide.{direct_plan}
use Rattle.decide.specs.Ruling.{ruling_by, ruling_of}
use Rattle.device.specs.Step.{Step}
use Rattle.device.specs.Run.{Call, run_of, end_of}
use Rattle.device.proofs.Parts.{run_parts, end_parts}
use Rattle.decide.proofs.Heads.{ruling_begins}
use Rattle.modem.specs.declared.arrived.Seen.{Seen}
use Rattle.modem.specs.Arrived.{frame_start, size_at, seek_of}
use Rattle.modem.specs.Frames.{framed_by}
use Rattle.modem.specs.Stream.{cut_by, cut, call_in, calls_in, written_for}
use Rattle.modem.proofs.Placed.{found}
use Rattle.modem.proofs.Cut.{marked, waiting, whole_first, frame_by_frame, short, alone, in_pieces}
use Rattle.modem.proofs.Framed.{each_framed}
use Rattle.around.specs.Program.{InPieces, PingAlways, FramesAreMessages, Messages, RepliesAreMessages}
use Rattle.around.specs.Program.{SkippedAlone, Frame, standard, extended, Holds, end, next, EndDrops}

pub in_any_pieces : InPieces
in_any_pieces st room p q =
    let first : List Call = calls_in room (cut p).frames in
    let second : List Call = calls_in room (cut ((cut p).kept ++ q)).frames in
    let calls : calls_in room ((cut p).frames ++ (cut ((cut p).kept ++ q)).frames) ≡ first ++ second = map-append (call_in room) (cut p).frames _ in
    let run : map written_for (run_of st (first ++ second)) ≡ map written_for (run_of st first) ++ map written_for (run_of (end_of st first) second) =
    ap (map written_for) (run_parts st first second) ∙ map-append written_for (run_of st first) _ in
    rw (in_pieces p q, calls) (λ i. record { written = run i; state = end_parts st first second i; kept = (cut ((cut p).kept ++ q)).kept })

pub ping_always : PingAlways
unfolding choose first_from standards kind_of read_of direct_plan ruling_by run_of end_of cut_by frame_start framed_by
ping_always l room f h = rw (f, le-ltb (length room) 9 h) refl

pub frames_are_messages : FramesAreMessages
frames_are_messages = each_framed

as_messages : (s : List ℕ) (ms : List (List ℕ)) → Each (hops_of s) ms → Messages s (flatten ms)
as_messages s ms f =
    record {
      messages = ms;
      joined = refl;
      whole = λ i h. (f i h).whole;
      left = λ i h. omega (arith, (f i h).left);
      largest = λ i h. omega (arith, (f i h).largest);
    }

pub replies_are_messages : RepliesAreMessages
unfolding flatten
replies_are_messages m l s room =
    let own : Address = m.identity.address in
    let due : Due = (ruling_of m l s).plan.due in
    either (λ (t : Step). Messages s t.reply) _
    (as_messages s [] (none (hops_of s)))
    (rw (joined own l due) (as_messages s (messages_of own l due) (each_sound own l (hops_of s) due (ruling_begins m l s))))

pub skipped_alone : SkippedAlone
skipped_alone = alone

-- a frame that was found is one
module _ (s : List ℕ) (k n : ℕ) (e : seek_of s ≡ Seen.Whole k n) where
  at_place : (i : ℕ) → i < n → get_or (take n (drop k s)) i 0 ≡ get_or s (k + i) 0
  at_place i h = get_or-take n (drop k s) i 0 h ∙ get_or-drop k s i 0

  found_frame : Frame (take n (drop k s))
  unfolding choose
  found_frame =
      let f = found s k n (sym e) in
      let long : length (take n (drop k s)) ≡ n = length-take-le n (drop k s) (omega (arith, f.lies, length-drop k s)) in
      let size : n ≡ size_at s k = f.size ∙ ap (size_at s) (sym f.place) in
      let first : get_or (take n (drop k s)) 0 0 ≡ get_or s k 0 = at_place 0 (omega (arith, f.least)) ∙ ap (λ (x : ℕ). get_or s x 0) (add-zero k) in
      let second : get_or (take n (drop k s)) 1 0 ≡ get_or s (k + 1) 0 = at_place 1 (omega (arith, f.least)) in
      let m = both (eqb (get_or s k 0) 0x02) _ (marked s k n e) in
      go (eqb (get_or s (k + 1) 0) 0x51) refl (first ∙ eqb-true _ _ m.0) second m.1 (long ∙ size)
    where
      go : (b : Bool) → eqb (get_or s (k + 1) 0) 0x51 ≡ b → get_or (take n (drop k s)) 0 0 ≡ 0x02 → get_or (take n (drop k s)) 1 0 ≡ get_or s (k + 1) 0
          → eqb (get_or s (k + 1) 0) 0x50 || b ≡ true → length (take n (drop k s)) ≡ choose b 25 11 → Frame (take n (drop k s))
      go true q first second m long = extended first (second ∙ eqb-true _ _ q) long
      go false q first second m long = standard first (second ∙ eqb-true _ _ (sym (or-false _) ∙ m)) long

-- where its frames stand, and the bytes kept
abbrev Held : List ℕ → Type 0
Held s = Holds s (cut s).frames (cut s).kept

pub end_drops : EndDrops
end_drops s = (frame_by_frame Held wait more s, short s)
  where
    wait : (s : List ℕ) (k : ℕ) → seek_of s ≡ Seen.Waiting k → Held s
    wait s k e = rw (waiting s k e) (end (take k s) (drop k s) (sym (take-append-drop k s)))

    more : (s : List ℕ) (k n : ℕ) → seek_of s ≡ Seen.Whole k n → Held (drop (k + n) s) → Held s
    more s k n e h =
        let behind : take n (drop k s) ++ drop (k + n) s ≡ drop k s = rw (← drop-drop n k s) (take-append-drop n (drop k s)) in
        let parts : take k s ++ (take n (drop k s) ++ drop (k + n) s) ≡ s = rw behind (take-append-drop k s) in
        rw (whole_first s k n e) (next (take k s) (take n (drop k s)) (sym parts) (found_frame s k n e) h)

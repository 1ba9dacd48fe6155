-- How a desk comes along: no frame, one frame, and one stretch after another.
use Rattle.std.proofs.Common.{◌≡◌, ℕ, ◌+◌, ◌<◌, ◌≤◌, List, [], ◌∷◌, ◌++◌, length, take, drop, sym, refl, ap, ◌∙◌, append_assoc, append-nil, arith, drop-drop}
use mathlib.Core.List.{map-append}
use Rattle.seating.specs.Heed.{Heed}
use Rattle.seating.specs.Sat.{Sat, Told, heed_in, sat_by, heed_all, sat_after, told_by}
use Rattle.seating.proofs.Laws.{heed_parts, sat-parts, heed-alike}
use Rattle.modem.specs.declared.arrived.Seen.{Seen}
use Rattle.modem.specs.Arrived.{seek_of}
use Rattle.modem.specs.Stream.{Cut, cut, call_in, calls_in}
use Rattle.modem.proofs.Cut.{waiting, whole_first, short, in_pieces}
use Rattle.desk.specs.declared.answer.Desk.{Desk}
use Rattle.desk.specs.Desk.{sat_at, Answered}
use Rattle.text.specs.declared.tally.Tally.{Tally}
use Rattle.desk.specs.Tally.{counted_as, counted, counted_all}
use Rattle.desk.specs.Passed.{Passed, Unfinished, ArrivedPromise}
use Rattle.desk.specs.Ahead.{seek_behind}
use Rattle.desk.proofs.Ahead.{next, none}

-- counted in two parts
count_parts : (tally : Tally) (first second : List Heed) → counted_all tally (first ++ second) ≡ counted_all (counted_all tally first) second
unfolding counted_all
count_parts tally [] second = refl
count_parts tally (t ∷ first) second = count_parts (counted tally t) first second

-- one room or another of its length: the same seats, and the same counts
module _ (room room' : List ℕ) (e : length room ≡ length room') where
  alike : (st : Sat) (frame : List ℕ) → told_by st (heed_in st (call_in room frame)) ≡ told_by st (heed_in st (call_in room' frame))
  alike st frame = heed-alike st.seating st.links (drop 2 frame) room room' e

  left-alike : (st : Sat) (frame : List ℕ) → sat_by st (heed_in st (call_in room frame)) ≡ sat_by st (heed_in st (call_in room' frame))
  left-alike st frame = ap (λ (x : Told). x.left) (alike st frame)

  end_alike : (st : Sat) (frames : List (List ℕ)) → sat_after st (calls_in room frames) ≡ sat_after st (calls_in room' frames)
  unfolding sat_after
  end_alike st [] = refl
  end_alike st (f ∷ frames) =
      end_alike (sat_by st (heed_in st (call_in room f))) frames
      ∙ ap (λ (z : Sat). sat_after z (calls_in room' frames)) (left-alike st f)

  count_alike : (st : Sat) (tally : Tally) (frames : List (List ℕ))
      → counted_all tally (heed_all st (calls_in room frames)) ≡ counted_all tally (heed_all st (calls_in room' frames))
  unfolding heed_all counted_all
  count_alike st tally [] = refl
  count_alike st tally (f ∷ frames) =
      count_alike (sat_by st (heed_in st (call_in room f))) (counted tally (heed_in st (call_in room f))) frames
      ∙ (λ i. counted_all (counted_as tally (alike st f i).number (alike st f i).whom) (heed_all (left-alike st f i) (calls_in room' frames)))

-- nothing is done yet, with the desk open or closed
pub still : (desk after : Desk) (l room s : List ℕ) → sat_at after l ≡ sat_at desk l → after.tally ≡ desk.tally → Passed desk l room s after l s
unfolding sat_after heed_all counted_all
still desk after l room s p q = record { served = []; frames = refl; kept = refl; state = p; tally = q }

-- the next frame is served
pub one : (desk after : Desk) (l room s links : List ℕ) (k n : ℕ) → seek_of s ≡ Seen.Whole k n
    → Answered desk l (heed_in (sat_at desk l) (call_in room (take n (drop k s)))) after links
    → Passed desk l room s after links (drop (k + n) s)
unfolding sat_after heed_all counted_all
one desk after l room s links k n e a =
    let c = whole_first s k n e in
    record {
      served = take n (drop k s) ∷ [];
      frames = ap (λ (z : Cut). z.frames) c;
      kept = ap (λ (z : Cut). z.kept) c;
      state = a.state;
      tally = a.tally;
    }

-- one stretch and the next
module _ (before middle after : Desk) (l l' l'' room room' : List ℕ) (e : length room' ≡ length room) (s rest left : List ℕ) where
  pub then : Passed before l room s middle l' rest → Passed middle l' room' rest after l'' left → Passed before l room s after l'' left
  then p q =
      let st : Sat = sat_at before l in
      let calls = map-append (call_in room) p.served q.served in
      let middle-is : sat_at middle l' ≡ sat_after st (calls_in room p.served) = p.state in
      let states : sat_at after l'' ≡ sat_after st (calls_in room (p.served ++ q.served)) =
      q.state
      ∙ end_alike room' room e (sat_at middle l') q.served
      ∙ ap (λ (z : Sat). sat_after z (calls_in room q.served)) middle-is
      ∙ sym (sat-parts st (calls_in room p.served) (calls_in room q.served))
      ∙ ap (sat_after st) (sym calls) in
      let counts : after.tally ≡ counted_all before.tally (heed_all st (calls_in room (p.served ++ q.served))) =
      q.tally
      ∙ count_alike room' room e (sat_at middle l') middle.tally q.served
      ∙ (λ i. counted_all (p.tally i) (heed_all (middle-is i) (calls_in room q.served)))
      ∙ sym (count_parts before.tally (heed_all st (calls_in room p.served)) (heed_all (sat_after st (calls_in room p.served)) (calls_in room q.served)))
      ∙ ap (counted_all before.tally) (sym (heed_parts st (calls_in room p.served) (calls_in room q.served)))
      ∙ ap (λ z. counted_all before.tally (heed_all st z)) (sym calls) in
      record {
        served = p.served ++ q.served;
        frames = p.frames ∙ ap (λ (z : List (List ℕ)). p.served ++ z) q.frames ∙ sym (append_assoc p.served q.served (cut left).frames);
        kept = p.kept ∙ q.kept;
        state = states;
        tally = counts;
      }

-- more arrives behind what is left, where that is no whole frame
pub more : (before after : Desk) (l room s links left new : List ℕ) → Passed before l room s after links left → Unfinished left
    → Passed before l room (s ++ new) after links (left ++ new)
more before after l room s links left new p u =
    let c = in_pieces s new in
    let kept : (cut s).kept ≡ left = p.kept ∙ ap (λ (z : Cut). z.kept) u in
    let first : (cut s).frames ≡ p.served = p.frames ∙ ap (λ (z : Cut). p.served ++ z.frames) u ∙ append-nil p.served in
    record {
      served = p.served;
      frames = ap (λ (z : Cut). z.frames) c ∙ (λ i. first i ++ (cut (kept i ++ new)).frames);
      kept = ap (λ (z : Cut). z.kept) c ∙ ap (λ (z : List ℕ). (cut (z ++ new)).kept) kept;
      state = p.state;
      tally = p.tally;
    }

-- where a frame is waited for, nothing that is left can be skipped: cut again, it is as it was
pub unfinished : (s : List ℕ) (k : ℕ) → seek_of s ≡ Seen.Waiting k → Unfinished (drop k s)
unfinished s k e =
    let c : cut s ≡ record { frames = []; kept = drop k s } = waiting s k e in
    let again = ap cut (sym (append-nil s)) ∙ in_pieces s [] in
    let left : (cut s).kept ++ [] ≡ drop k s = append-nil (cut s).kept ∙ ap (λ (z : Cut). z.kept) c in
    let frames : (cut s).frames ≡ (cut (drop k s)).frames = ap (λ (z : Cut). z.frames) again ∙ (λ i. (c i).frames ++ (cut (left i)).frames) in
    let kept : (cut s).kept ≡ (cut (drop k s)).kept = ap (λ (z : Cut). z.kept) again ∙ ap (λ (z : List ℕ). (cut z).kept) left in
    (λ i. record { frames = sym frames i; kept = sym kept i }) ∙ c

-- what is skipped before a wait leaves no trace
skip : (before after : Desk) (l room s links left : List ℕ) → Passed before l room s after links left → (k : ℕ) → seek_of left ≡ Seen.Waiting k
    → Passed before l room s after links (drop k left)
skip before after l room s links left p k e =
    let c : cut left ≡ cut (drop k left) = waiting left k e ∙ sym (unfinished left k e) in
    record {
      served = p.served;
      frames = p.frames ∙ ap (λ (z : Cut). p.served ++ z.frames) c;
      kept = p.kept ∙ ap (λ (z : Cut). z.kept) c;
      state = p.state;
      tally = p.tally;
    }

-- the first bytes of what has arrived are done with, and the next ones are looked at
module _ {before desk : Desk} {l room s links : List ℕ} {used : ℕ} (p : Passed before l room s desk links (drop used s)) (inside : used ≤ length s) where
  pub no_more : {k : ℕ} → Seen.Waiting k ≡ seek_behind used s → ArrivedPromise before l room s (record { desk = desk; count = k }) links
  no_more {k} found =
      let r = none used s inside k found in
      let e : drop r.at (drop used s) ≡ drop k s = drop-drop r.at used s ∙ ap (λ (z : ℕ). drop z s) (sym r.place) in
      record {
        inside = r.lies;
        passed = rw e at (skip before desk l room s links (drop used s) p r.at r.seen);
        all = λ _. rw e at (unfinished (drop used s) r.at r.seen);
      }

  pub one_more : {after : Desk} (room' : List ℕ) {links' : List ℕ} {k n : ℕ} → length room' ≡ length room → Seen.Whole k n ≡ seek_behind used s
      → Answered desk links (heed_in (sat_at desk links) (call_in room' (take n (drop k s)))) after links'
      → Passed before l room s after links' (drop (k + n) s)
  one_more {after} room' {links'} {k} {n} e found a =
      let f = next used s inside k n found in
      let at-frame : drop f.at (drop used s) ≡ drop k s = drop-drop f.at used s ∙ ap (λ (z : ℕ). drop z s) (sym f.place) in
      let far : used + (f.at + n) ≡ k + n = omega (arith, f.place) in
      let behind : drop (f.at + n) (drop used s) ≡ drop (k + n) s = drop-drop (f.at + n) used s ∙ ap (λ (z : ℕ). drop z s) far in
      let next = one desk after links room' (drop used s) links' f.at n f.seen (rw at-frame a) in
      then before desk after l links links' room room' e s (drop used s) (drop (k + n) s) p (rw behind at next)

-- less than one frame ever waits
pub less : (s : List ℕ) → Unfinished s → length s < 25
less s u = rw (ap (λ (z : Cut). z.kept) u) at (short s)

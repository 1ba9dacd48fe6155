-- Frames may arrive in pieces of any size ("The program"): what is found does not hang on where they are cut.
use Prim.Native.Nat.{ℕ, ◌+◌, ◌-◌, ◌≤◌, ◌<◌}
use mathlib.Core.Path.{◌≡◌, refl, sym, ◌∙◌, ap}
use mathlib.Core.Bool.{Bool, true, false}
use mathlib.Core.List.{List, ◌++◌}
use native.Mathlib.Nat.{zero-add, add-zero}
use native.Mathlib.Omega.{arith}
use lib.Dec.{eqb, leb}
use Rattle.std.proofs.lemmas.Bool.Decides.{nat_tests}
use lib.ListN.{length, drop, length-append, length-drop, get_or-append}
use lib.Seq.{get_or-drop}
use borrow.Author.Tests.{ne_eqb, leb-true, leb-false}
use Rattle.basis.specs.First.{first_from}
use Rattle.basis.proofs.First.{At, Told, told, unique, skipped, shifted}
use Rattle.modem.specs.declared.arrived.Seen.{Seen}
use Rattle.modem.specs.Arrived.{stops_at, frame_start, size_at, seen_at, seek_of}
use Rattle.modem.proofs.Placed.{inside, whole, cut, found, waits}

-- what is seen, k places further on
abbrev pub moved : ℕ → Seen → Seen
moved k (Seen.Whole i n) = Seen.Whole (k + i) n
moved k (Seen.Waiting i) = Seen.Waiting (k + i)

-- bytes that arrive behind alter no place before the last byte
keeps : (s t : List ℕ) (j : ℕ) → j + 1 < length s → stops_at (s ++ t) j ≡ stops_at s j
keeps s t j h =
    rw (
      get_or-append s t 0 j (omega arith),
      get_or-append s t 0 (j + 1) h,
      ne_eqb (j + 1) (length (s ++ t)) (λ e. omega (arith, length-append s t)),
      ne_eqb (j + 1) (length s) (λ e. omega arith),
    )

-- nor a last byte that is not 02
last : (s t : List ℕ) (j : ℕ) → j + 1 ≡ length s → stops_at s j ≡ false → stops_at (s ++ t) j ≡ false
last s t j e p = grind (arith, nat_tests, get_or-append {A = ℕ})

-- no place before the first one stops
quiet : (s : List ℕ) (j : ℕ) → j < frame_start s → stops_at s j ≡ false
unfolding frame_start
quiet s j h = go (first_from (stops_at s) (length s) 0) (told (stops_at s) (length s) 0) h
  where
    go : (k : ℕ) → Told (stops_at s) (length s) 0 k → j < k → stops_at s j ≡ false
    go k (Told.at a) h = a.before j (omega arith) h
    go k (Told.nowhere w) h = w.never j (omega arith) (omega (arith, w.behind))

-- the first one does, where it is one
pub stops : (s : List ℕ) → frame_start s < length s → stops_at s (frame_start s) ≡ true
unfolding frame_start
stops s h = go (first_from (stops_at s) (length s) 0) (told (stops_at s) (length s) 0) h
  where
    go : (k : ℕ) → Told (stops_at s) (length s) 0 k → k < length s → stops_at s k ≡ true
    go k (Told.at a) h = a.holds
    go k (Told.nowhere w) h = absurd (omega (arith, w.behind))

still : (s t : List ℕ) (j : ℕ) → j < frame_start s → stops_at (s ++ t) j ≡ false
still s t j h = grind (arith, nat_tests, last, keeps, quiet, inside)

-- a frame that was found stays found
pub stays : (s t : List ℕ) (k n : ℕ) → Seen.Whole k n ≡ seek_of s → Seen.Whole k n ≡ seek_of (s ++ t)
unfolding frame_start
stays s t k n e =
    let f = found s k n e in
    let l : length (s ++ t) ≡ length s + length t = length-append s t in
    let next : frame_start s + 1 < length s = omega (arith, f.place, f.lies, f.least) in
    let there : stops_at (s ++ t) (frame_start s) ≡ true = keeps s t (frame_start s) (omega arith) ∙ stops s (omega arith) in
    let first : At (stops_at (s ++ t)) (length (s ++ t)) 0 (frame_start s) =
    record { from = omega arith; inside = omega arith; holds = there; before = λ j a b. still s t j b } in
    let p : frame_start (s ++ t) ≡ frame_start s = unique (stops_at (s ++ t)) (length (s ++ t)) 0 (frame_start s) first in
    let z : size_at (s ++ t) (frame_start s) ≡ size_at s (frame_start s) = rw (get_or-append s t 0 (frame_start s + 1) next) in
    (λ i. Seen.Whole (f.place i) ((f.size ∙ sym z) i))
    ∙ sym (rw p (whole (s ++ t) (frame_start s) (omega (arith, f.place, f.size, f.lies))))

-- the tests at k + j are those at j of what stands from k on
further : (k : ℕ) (x : List ℕ) → k ≤ length x → (j : ℕ) → stops_at x (k + j) ≡ stops_at (drop k x) j
further k x h j =
    let a : k + (j + 1) ≡ k + j + 1 = omega arith in
    let n : length (drop k x) ≡ length x - k = length-drop k x in
    let b : eqb (k + j + 1) (length x) ≡ eqb (j + 1) (length (drop k x)) = grind (arith, nat_tests) in
    rw (get_or-drop k x j 0, get_or-drop k x (j + 1) 0, a, b)

-- bytes that stop nowhere can be dropped: what is seen is what is seen behind them
pub goes_on : (k : ℕ) (x : List ℕ) → k ≤ length x → ((j : ℕ) → j < k → stops_at x j ≡ false) → seek_of x ≡ moved k (seek_of (drop k x))
unfolding frame_start
goes_on k x h quiet =
    let y : List ℕ = drop k x in
    let n : length y ≡ length x - k = length-drop k x in
    let m : length x ≡ k + length y = omega arith in
    let p : frame_start x ≡ k + frame_start y =
    ap (λ (i : ℕ). first_from (stops_at x) i 0) m
    ∙ skipped (stops_at x) k (length y) 0 (λ j a b. quiet j (omega arith))
    ∙ ap (λ (i : ℕ). first_from (stops_at x) (length y) i) (zero-add k ∙ sym (add-zero k))
    ∙ shifted (stops_at x) (stops_at y) k (further k x h) (length y) 0 in
    let q : k + (frame_start y + 1) ≡ k + frame_start y + 1 = omega arith in
    let z : size_at x (k + frame_start y) ≡ size_at y (frame_start y) = rw (get_or-drop k x (frame_start y + 1) 0, q) in
    rw p (seen k x y (frame_start y) z m)
  where
    seen : (k : ℕ) (x y : List ℕ) (i : ℕ) → size_at x (k + i) ≡ size_at y i → length x ≡ k + length y → seen_at x (k + i) ≡ moved k (seen_at y i)
    seen k x y i z m = go (leb (i + size_at y i) (length y)) refl
      where
        go : (b : Bool) → leb (i + size_at y i) (length y) ≡ b → seen_at x (k + i) ≡ moved k (seen_at y i)
        go true q =
            let h : i + size_at y i ≤ length y = leb-true _ _ q in
            whole x (k + i) (omega arith) ∙ (λ j. Seen.Whole (k + i) (z j)) ∙ ap (moved k) (sym (whole y i h))
        go false q =
            let h : length y < i + size_at y i = leb-false _ _ q in
            cut x (k + i) (omega arith) ∙ ap (moved k) (sym (cut y i h))

-- what is skipped once need not be looked at again: the bytes before a wait can be dropped
pub waits_on : (s t : List ℕ) (k : ℕ) → Seen.Waiting k ≡ seek_of s → seek_of (s ++ t) ≡ moved k (seek_of (drop k (s ++ t)))
waits_on s t k e =
    let w = waits s k e in
    goes_on k (s ++ t) (omega (arith, length-append s t, w.lies)) (λ j h. still s t j (omega (arith, w.place)))

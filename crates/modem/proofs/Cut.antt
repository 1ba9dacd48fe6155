-- What has arrived, cut into its frames: frame by frame, and piece by piece.
use Prim.Native.Nat.{ℕ, zero, suc, ◌+◌, ◌≤◌, ◌<◌}
use mathlib.Core.Path.{◌≡◌, refl, sym, ◌∙◌, ap}
use mathlib.Core.Bool.{Bool, true, false, ◌&&◌, ◌||◌}
use mathlib.Core.List.{List, [], ◌∷◌, ◌++◌}
use native.Mathlib.Nat.{add_assoc}
use native.Mathlib.Omega.{arith}
use lib.Dec.{eqb}
use lib.ListN.{length, take, drop, get_or, length-drop}
use lib.Seq.{drop-drop, drop-append-le, take-append-le}
use borrow.Author.Tests.{ne_eqb}
use Rattle.basis.specs.Choice.{choose}
use Rattle.basis.specs.First.{first_from}
use Rattle.modem.specs.declared.arrived.Seen.{Seen}
use Rattle.modem.specs.Arrived.{starts_at, stops_at, frame_start, seek_of}
use Rattle.modem.specs.Stream.{Cut, cut_at, cut_by, cut}
use Rattle.modem.proofs.Placed.{found, waits}
use Rattle.modem.proofs.Pieces.{moved, stops, stays, goes_on, waits_on}

-- nothing comes of no bytes
none : (n : ℕ) (s : List ℕ) → length s ≡ 0 → cut_by n s ≡ record { frames = []; kept = [] }
unfolding cut_by frame_start first_from choose
none zero [] e = refl
none (suc n) [] e = refl
none n (x ∷ s) e = absurd (omega arith)

-- behind a whole frame less is left
shorter : (s : List ℕ) (k n : ℕ) → seek_of s ≡ Seen.Whole k n → length (drop (k + n) s) < length s
shorter s k n e =
    let f = found s k n (sym e) in
    omega (arith, f.lies, f.least, length-drop (k + n) s)

-- 02 50 or 02 51 stands there
pub marked : (s : List ℕ) (k n : ℕ) → seek_of s ≡ Seen.Whole k n → starts_at s k ≡ true
marked s k n e =
    let f = found s k n (sym e) in
    let here : stops_at s k ≡ true = rw f.place (stops s (omega (arith, f.place, f.lies, f.least))) in
    let more : eqb (k + 1) (length s) ≡ false = ne_eqb (k + 1) (length s) (λ q. omega (arith, f.lies, f.least)) in
    not_last (eqb (get_or s k 0) 0x02) (starts_at s k) (rw more at here)
  where
    not_last : (a b : Bool) → (a && false) || b ≡ true → b ≡ true
    not_last true b p = p
    not_last false b p = p

-- the next frame, and the cut of what stands behind it
abbrev led : List ℕ → Cut → Cut
led frame rest = record { frames = frame ∷ rest.frames; kept = rest.kept }

-- two ways to cut what is shorter cut alike
alike : (s : List ℕ) (f g : List ℕ → Cut) → ((t : List ℕ) → length t < length s → f t ≡ g t) → cut_at s f (seek_of s) ≡ cut_at s g (seek_of s)
alike s f g h = go (seek_of s) refl
  where
    go : (v : Seen) → seek_of s ≡ v → cut_at s f v ≡ cut_at s g v
    go (Seen.Waiting k) e = refl
    go (Seen.Whole k n) e = ap (led (take n (drop k s))) (h (drop (k + n) s) (shorter s k n e))

-- a bound that is no less than the bytes is none
same : (n k : ℕ) (s : List ℕ) → length s ≤ n → length s ≤ k → cut_by n s ≡ cut_by k s
unfolding cut_by
same zero k s h g = none 0 s (omega arith) ∙ sym (none k s (omega arith))
same (suc n) zero s h g = none (suc n) s (omega arith) ∙ sym (none 0 s (omega arith))
same (suc n) (suc k) s h g = alike s (cut_by n) (cut_by k) (λ t q. same n k t (omega arith) (omega arith))

-- by what is seen first
opened : (s : List ℕ) → cut s ≡ cut_at s cut (seek_of s)
unfolding cut_by
opened s =
    let more : cut_by (length s) s ≡ cut_by (suc (length s)) s = same (length s) (suc (length s)) s (omega arith) (omega arith) in
    more ∙ alike s (cut_by (length s)) cut (λ t q. same (length s) (length t) t (omega arith) (omega arith))

pub waiting : (s : List ℕ) (k : ℕ) → seek_of s ≡ Seen.Waiting k → cut s ≡ record { frames = []; kept = drop k s }
waiting s k e = opened s ∙ ap (cut_at s cut) e

pub whole_first : (s : List ℕ) (k n : ℕ) → seek_of s ≡ Seen.Whole k n
    → cut s ≡ record { frames = take n (drop k s) ∷ (cut (drop (k + n) s)).frames; kept = (cut (drop (k + n) s)).kept }
whole_first s k n e = opened s ∙ ap (cut_at s cut) e

-- what holds of a wait, and of a frame before what it holds of, holds of all that can arrive
pub frame_by_frame : (P : List ℕ → Type 0)
    → ((s : List ℕ) (k : ℕ) → seek_of s ≡ Seen.Waiting k → P s)
    → ((s : List ℕ) (k n : ℕ) → seek_of s ≡ Seen.Whole k n → P (drop (k + n) s) → P s)
    → (s : List ℕ) → P s
frame_by_frame P wait next s = up_to (suc (length s)) s (omega arith)
  where
    by-seen : (s : List ℕ) → ((t : List ℕ) → length t < length s → P t) → (v : Seen) → seek_of s ≡ v → P s
    by-seen s h (Seen.Waiting k) e = wait s k e
    by-seen s h (Seen.Whole k n) e = next s k n e (h (drop (k + n) s) (shorter s k n e))

    up_to : (n : ℕ) (s : List ℕ) → length s < n → P s
    up_to zero s h = absurd (omega arith)
    up_to (suc n) s h = by-seen s (λ t g. up_to n t (omega arith)) (seek_of s) refl

-- less than one frame ever waits
pub short : (s : List ℕ) → length (cut s).kept < 25
short = frame_by_frame (λ (s : List ℕ). length (cut s).kept < 25) wait (λ s k n e h. rw (whole_first s k n e) h)
  where
    wait : (s : List ℕ) (k : ℕ) → seek_of s ≡ Seen.Waiting k → length (cut s).kept < 25
    wait s k e =
        let w = waits s k (sym e) in
        rw (waiting s k e) (omega (arith, w.less, length-drop k s))

-- bytes that are skipped leave no trace
skips : (k : ℕ) (x : List ℕ) → seek_of x ≡ moved k (seek_of (drop k x)) → cut x ≡ cut (drop k x)
skips k x e = go (seek_of (drop k x)) refl
  where
    go : (v : Seen) → seek_of (drop k x) ≡ v → cut x ≡ cut (drop k x)
    go (Seen.Waiting i) f = waiting x (k + i) (e ∙ ap (moved k) f) ∙ rw (← drop-drop i k x) (sym (waiting (drop k x) i f))
    go (Seen.Whole i n) f =
        whole_first x (k + i) n (e ∙ ap (moved k) f)
        ∙ rw (add_assoc k i n, ← drop-drop i k x, ← drop-drop (i + n) k x) (sym (whole_first (drop k x) i n f))

-- a byte that starts no frame is skipped alone
pub alone : (x : ℕ) (s : List ℕ) → stops_at (x ∷ s) 0 ≡ false → cut (x ∷ s) ≡ cut s
alone x s e = skips 1 (x ∷ s) (goes_on 1 (x ∷ s) (omega arith) (λ j h. let z : j ≡ 0 = omega arith in rw z e))

-- a second piece, behind what was kept of the first
abbrev after : Cut → List ℕ → Cut
after c q = record { frames = c.frames ++ (cut (c.kept ++ q)).frames; kept = (cut (c.kept ++ q)).kept }

-- what comes out does not hang on where what arrives is cut
pub in_pieces : (p q : List ℕ) → cut (p ++ q) ≡ record { frames = (cut p).frames ++ (cut ((cut p).kept ++ q)).frames; kept = (cut ((cut p).kept ++ q)).kept }
in_pieces p q = frame_by_frame (λ (p : List ℕ). cut (p ++ q) ≡ after (cut p) q) wait next p
  where
    wait : (p : List ℕ) (k : ℕ) → seek_of p ≡ Seen.Waiting k → cut (p ++ q) ≡ after (cut p) q
    wait p k e =
        let w = waits p k (sym e) in
        skips k (p ++ q) (waits_on p q k (sym e)) ∙ rw (waiting p k e, drop-append-le k p q w.lies) refl

    next : (p : List ℕ) (k n : ℕ) → seek_of p ≡ Seen.Whole k n → cut (drop (k + n) p ++ q) ≡ after (cut (drop (k + n) p)) q → cut (p ++ q) ≡ after (cut p) q
    next p k n e h =
        let f = found p k n (sym e) in
        let inside : n ≤ length (drop k p) = omega (arith, f.lies, length-drop k p) in
        let frame : take n (drop k (p ++ q)) ≡ take n (drop k p) = rw (drop-append-le k p q (omega (arith, f.lies))) (take-append-le n (drop k p) q inside) in
        whole_first (p ++ q) k n (sym (stays p q k n (sym e)))
        ∙ rw (frame, drop-append-le (k + n) p q f.lies, h, whole_first p k n e) refl

-- Where a frame is looked for, and what is found there.
use Prim.Native.Nat.{ℕ, pred, ◌+◌, ◌-◌, ◌≤◌, ◌<◌}
use mathlib.Core.Path.{◌≡◌, sym}
use mathlib.Core.Bool.{false}
use mathlib.Core.List.{List}
use native.Mathlib.Omega.{arith}
use lib.Dec.{eqb}
use Rattle.std.proofs.lemmas.Bool.Decides.{nat_tests}
use lib.ListN.{length, get_or}
use borrow.Author.Tests.{le-leb, lt-leb}
use Rattle.basis.specs.Choice.{choose}
use Rattle.basis.specs.First.{first_from}
use Rattle.basis.proofs.Choice.{either}
use Rattle.basis.proofs.First.{none, here, later, Told, told}
use Rattle.modem.specs.declared.arrived.Seen.{Seen}
use Rattle.modem.specs.Arrived.{stops_at, frame_start, size_at, seek_of, seen_at}

pub inside : (s : List ℕ) → frame_start s ≤ length s
unfolding frame_start
inside s = go (first_from (stops_at s) (length s) 0) (told (stops_at s) (length s) 0)
  where
    go : (k : ℕ) → Told (stops_at s) (length s) 0 k → k ≤ length s
    go k (Told.at a) = omega (arith, a.inside)
    go k (Told.nowhere w) = omega (arith, w.behind)

-- what is left to look at from place k on ends where the whole search does
pub next_place : (s : List ℕ) (k : ℕ) → k < length s → stops_at s k ≡ false → first_from (stops_at s) (length s - (k + 1)) (k + 1) ≡ first_from (stops_at s) (length s - k) k
next_place s k h e = let p : length s - (k + 1) ≡ pred (length s - k) = omega arith in rw p (sym (later (stops_at s) (length s - k) k (omega arith) e))

pub no_place : (s : List ℕ) (k : ℕ) → length s ≤ k → first_from (stops_at s) (length s - k) k ≡ k
no_place s k h = let p : length s - k ≡ 0 = omega arith in rw p (none (stops_at s) k)

-- turn by turn
pub ruleset place_steps = (here, next_place, no_place)

pub whole : (s : List ℕ) (k : ℕ) → k + size_at s k ≤ length s → seen_at s k ≡ Seen.Whole k (size_at s k)
unfolding choose
whole s k h = rw (le-leb (k + size_at s k) (length s) h)

pub cut : (s : List ℕ) (k : ℕ) → length s < k + size_at s k → seen_at s k ≡ Seen.Waiting k
unfolding choose
cut s k h = rw (lt-leb (k + size_at s k) (length s) h)

eleven : (s : List ℕ) (k : ℕ) → (11 ≤ size_at s k) × (size_at s k ≤ 25)
eleven s k = either (λ n. (11 ≤ n) × (n ≤ 25)) (eqb (get_or s (k + 1) 0) 0x51) (omega arith) (omega arith)

-- what is found stands at the first place, and lies in what has arrived
pub record Found (s : List ℕ) (k n : ℕ) : Type 0 where
  pub place : k ≡ frame_start s
  pub size : n ≡ size_at s (frame_start s)
  pub lies : k + n ≤ length s
  pub least : 11 ≤ n

pub found : (s : List ℕ) (k n : ℕ) → Seen.Whole k n ≡ seek_of s → Found s k n
unfolding choose
found s k n e = grind (arith, nat_tests, eleven)

-- less than a frame is left to wait
pub record Waits (s : List ℕ) (k : ℕ) : Type 0 where
  pub place : k ≡ frame_start s
  pub lies : k ≤ length s
  pub less : length s < k + 25

pub waits : (s : List ℕ) (k : ℕ) → Seen.Waiting k ≡ seek_of s → Waits s k
unfolding choose
waits s k e = grind (arith, nat_tests, eleven, inside)

-- Line after line: the next one begins further on, and what is read so far with what is left gives the whole.
use Prim.Native.Nat.{ℕ, zero, suc, ◌+◌, ◌-◌, ◌≤◌, ◌<◌}
use mathlib.Core.Path.{◌≡◌, refl, sym, ◌∙◌}
use mathlib.Core.List.{List}
use native.Mathlib.Omega.{arith}
use lib.Dec.{ltb}
use lib.ListN.{length, take, drop}
use borrow.Author.Tests.{lt-ltb, le-ltb, ltb-true}
use Rattle.std.specs.Prelude.{Some, None, Ok, Err}
use Rattle.basis.specs.Choice.{choose}
use Rattle.basis.proofs.Choice.{by}
use Rattle.roster.specs.declared.roster.Roster.{Roster}
use Rattle.roster.specs.Line.{Line, line_of}
use Rattle.roster.specs.Roster.{text_start, is_end, ends_at, line_end, line_next, line_at, empty_roster, with_line, roster_from, roster_of}
use Rattle.roster.proofs.Places.{bounds, found, place}

-- a line ends in the text, not before it begins
pub ends : (s : List ℕ) (i : ℕ) → i ≤ length s → (i ≤ line_end s i) × (line_end s i ≤ length s)
unfolding line_end
ends s i h = bounds (ends_at s) (length s) i h

pub first_end : (s : List ℕ) (i : ℕ) → i ≤ length s → line_end s i ≡ found is_end s i
unfolding line_end
first_end s i h = place is_end s i h

-- the next begins behind it, at most where the text ends
pub further : (s : List ℕ) (i e : ℕ) → i < length s → i ≤ e → (i < line_next s e) × (line_next s e ≤ length s)
unfolding line_next
further s i e h k =
    by (λ (m : ℕ). (i < m) × (m ≤ length s)) (ltb e (length s))
    (λ q. (omega arith, omega (arith, ltb-true e (length s) q)))
    (λ q. (h, omega arith))

abbrev next_at : List ℕ → ℕ → ℕ
next_at s i = line_next s (line_end s i)

abbrev next_with : List ℕ → ℕ → ℕ → Roster → Roster
next_with s i k r = with_line r (k + 1) (line_of (line_at s i))

module _ (n : ℕ) (s : List ℕ) (i k : ℕ) (r : Roster) where
  goes_on : i < length s → roster_from (suc n) s i k r ≡ roster_from n s (next_at s i) (k + 1) (next_with s i k r)
  unfolding roster_from choose
  goes_on h = rw (lt-ltb i (length s) h)

done : (n : ℕ) (s : List ℕ) (i k : ℕ) (r : Roster) → length s ≤ i → roster_from n s i k r ≡ r
unfolding roster_from choose
done zero s i k r h = refl
done (suc n) s i k r h = rw (le-ltb i (length s) h)

-- a line names one module or none
counts_on : (r : Roster) (number : ℕ) (line : Line) → (with_line r number line).count ≤ r.count + 1
counts_on r number (Ok None) = omega arith
counts_on r number (Ok (Some m)) = omega arith
counts_on r number (Err e) = omega arith

-- what is read of the text up to a place, which is k lines; and what is then still to come
pub record Read (s : List ℕ) (i k : ℕ) (r : Roster) : Type 0 where
  pub inside : i ≤ length s
  pub numbered : k ≤ i
  pub counted : r.count ≤ k
  pub left : ℕ
  pub enough : length s ≤ i + left
  pub gives : roster_from left s i k r ≡ roster_of s
  pub ends_behind : i ≤ line_end s i
  pub ends_inside : line_end s i ≤ length s
  pub next_behind : i < length s → i < next_at s i
  pub all_read : length s ≤ i → r ≡ roster_of s

module _ (s : List ℕ) (i k : ℕ) (r : Roster) where
  read : i ≤ length s → k ≤ i → r.count ≤ k → (n : ℕ) → length s ≤ i + n → roster_from n s i k r ≡ roster_of s → Read s i k r
  read inside numbered counted n enough gives =
      let e = ends s i inside in
      record {
        inside = inside;
        numbered = numbered;
        counted = counted;
        left = n;
        enough = enough;
        gives = gives;
        ends_behind = e.0;
        ends_inside = e.1;
        next_behind = λ h. (further s i (line_end s i) h e.0).0;
        all_read = λ h. sym (done n s i k r h) ∙ gives;
      }

pub none_read : (s : List ℕ) (i : ℕ) (r : Roster) → i ≡ text_start s → i ≤ length s → r ≡ empty_roster → Read s i 0 r
none_read s i r e h q = rw (q, e) (read s (text_start s) 0 empty_roster (rw e at h) (omega arith) (omega arith) (length s) (omega arith) refl)

module _ (s : List ℕ) (i k : ℕ) (r : Roster) where
  one_read : i < length s → Read s i k r → Read s (next_at s i) (k + 1) (next_with s i k r)
  one_read h p = go p.left p.enough p.gives
    where
      on : (i < next_at s i) × (next_at s i ≤ length s)
      on = further s i (line_end s i) h p.ends_behind

      line : Line
      line = line_of (line_at s i)

      go : (n : ℕ) → length s ≤ i + n → roster_from n s i k r ≡ roster_of s → Read s (next_at s i) (k + 1) (next_with s i k r)
      go zero enough gives = absurd (omega arith)
      go (suc n) enough gives =
          read _ _ _ _ on.1 (omega (arith, p.numbered, on.0)) (omega (arith, p.counted, counts_on r (k + 1) line)) n (omega (arith, on.0)) (sym (goes_on n s i k r h) ∙ gives)

  pub next_read : Read s i k r → i < length s → (e : ℕ) → e ≡ line_end s i → (j : ℕ) → j ≡ line_next s e
      → (r' : Roster) → r' ≡ with_line r (k + 1) (line_of (take (e - i) (drop i s))) → Read s j (k + 1) r'
  next_read p h e a j b r' q = rw (q, b, a) (one_read h p)

-- turn by turn
pub ruleset line_steps = (none_read, next_read)

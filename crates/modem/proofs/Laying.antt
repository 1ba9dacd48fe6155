-- A reply on its way into frames, message by message.
use Prim.Native.Nat.{ℕ, ◌+◌, ◌-◌, ◌*◌, ◌≤◌, ◌<◌}
use mathlib.Core.Path.{◌≡◌, refl, sym, ◌∙◌, ap}
use mathlib.Core.List.{List, [], ◌++◌}
use native.Mathlib.Omega.{arith}
use lib.ListN.{length, take, drop, take-append-drop, length-append, length-drop}
use lib.Seq.{length-take-le}
use borrow.Rule.Slice.PartMut.{put_mid, mid_of}
use Rattle.basis.specs.Laid.{laid, laid_if_fits}
use Rattle.basis.proofs.Laid.{lent, back, turn}
use Rattle.modem.specs.Frames.{frame_of, message_size, framed}
use Rattle.modem.proofs.Framed.{none, twice, inside, onward, split, size, longer}

-- the first message from place a on
abbrev next_size : List ℕ → ℕ → ℕ
next_size s a = message_size (mid_of a (length s - a) s)

-- the messages before place a are laid up to place k; and what is then still to come
pub record Laying (s room : List ℕ) (a k : ℕ) (out : List ℕ) : Type 0 where
  pub inside : a ≤ length s
  pub as_long : length out ≡ length room
  pub enough : 2 * length s < length room
  pub later : List ℕ
  pub left : framed (drop a s) ≡ later
  pub counts : k + length later ≡ length (framed s)
  pub gives : take k out ++ laid later (drop k out) ≡ laid (framed s) room
  pub onward : a < length s → 0 < next_size s a
  pub fits : a < length s → 2 + next_size s a ≤ length out - k
  pub all_counted : length s ≤ a → k ≡ length (framed s)
  pub all_laid : length s ≤ a → out ≡ laid (framed s) room

module _ (s room : List ℕ) where
  laying : (a k : ℕ) (out : List ℕ) → a ≤ length s → length out ≡ length room → 2 * length s < length room
      → k + length (framed (drop a s)) ≡ length (framed s) → take k out ++ laid (framed (drop a s)) (drop k out) ≡ laid (framed s) room → Laying s room a k out
  laying a k out h l e n g =
      record {
        inside = h;
        as_long = l;
        enough = e;
        later = framed (drop a s);
        left = refl;
        counts = n;
        gives = g;
        onward = λ q. onward s a _ q refl;
        fits = λ q. omega (arith, twice s, longer s a _ q refl);
        all_counted = λ q. omega (arith, ap length (nothing q));
        all_laid = λ q. sym (take-append-drop k out) ∙ ap (λ (v : List ℕ). take k out ++ laid v (drop k out)) (sym (nothing q)) ∙ g;
      }
    where
      nothing : length s ≤ a → framed (drop a s) ≡ []
      nothing q = none _ (drop a s) (length-drop a s ∙ omega arith)

  pub none_laid : 2 * length s < length room → Laying s room 0 0 room
  none_laid e = laying 0 0 room (omega arith) refl e (omega arith) refl

  pub next_laid : (a k : ℕ) (out : List ℕ) → Laying s room a k out → a < length s → (n : ℕ) → n ≡ next_size s a
      → (ys : List ℕ) → ys ≡ laid_if_fits (mid_of k (length out - k) out) (frame_of (mid_of a (a + n - a) s)) → length ys ≡ length (mid_of k (length out - k) out)
      → Laying s room (a + n) (k + (2 + n)) (put_mid k (length out - k) out ys)
  next_laid a k out p h n is ys q same =
      let m : List ℕ = frame_of (mid_of a (a + n - a) s) in
      let later : List ℕ = framed (drop (a + n) s) in
      let frame_is : length m ≡ 2 + n = size s a n h is in
      let z : k + (2 + n) ≡ k + length m = ap (λ (j : ℕ). k + j) (sym frame_is) in
      let longer_by : length p.later ≡ 2 + n + length later = ap length (sym p.left) ∙ longer s a n h is in
      let inside_out : k ≤ length out = omega (arith, p.fits h) in
      let as_long : length (put_mid k (length out - k) out ys) ≡ length room =
      ap length (back k out ys) ∙ simp length-append (omega (arith, length-take-le k out inside_out, same, lent k out, p.as_long)) in
      let on = turn k out ys m later (omega (arith, z, p.fits h)) q in
      let all = ap (λ (v : List ℕ). take k out ++ laid v (drop k out)) (sym (split s a n h is) ∙ p.left) in
      laying (a + n) (k + (2 + n)) (put_mid k (length out - k) out ys) (inside s a n h is) as_long p.enough (omega (arith, longer_by, p.counts)) (rw z (on ∙ all ∙ p.gives))

-- The frames of a reply, message by message.
use Prim.Native.Nat.{ℕ, zero, suc, min, ◌+◌, ◌-◌, ◌*◌, ◌≤◌, ◌<◌}
use mathlib.Core.Path.{◌≡◌, refl, sym, ◌∙◌, ap}
use mathlib.Core.Bool.{true}
use mathlib.Core.List.{List, [], ◌∷◌, ◌++◌, map, flatten}
use native.Mathlib.Omega.{arith}
use lib.ListN.{length, take, drop, get_or, length-append, length-drop, get_or-append}
use lib.Seq.{length-take-le, drop-drop, take-append_seam, drop-append_seam}
use borrow.Author.Tests.{eqb-true}
use borrow.Rule.Slice.PartMut.{put_mid, mid_of}
use Rattle.basis.specs.Choice.{choose}
use Rattle.basis.specs.Laid.{laid_if_fits}
use Rattle.basis.proofs.Choice.{either}
use Rattle.basis.proofs.Laid.{rest, fits, behind}
use Rattle.wire.specs.Bytes.{flags_of, is_extended, is_whole}
use Rattle.modem.specs.Frames.{marker_of, frame_of, message_size, framed_by, framed}

-- a message is nine bytes at least, unless fewer are left
nine : (s : List ℕ) → 9 ≤ choose (is_extended s) 23 9
nine s = either (λ n. 9 ≤ n) (is_extended s) (omega arith) (omega arith)

pub within : (s : List ℕ) → message_size s ≤ length s
within s = omega arith

pub some : (s : List ℕ) → 0 < length s → 0 < message_size s
some s h = omega (arith, nine s)

pub length_frame : (s : List ℕ) → length (frame_of (take (message_size s) s)) ≡ 2 + message_size s
length_frame s = omega (arith, length-take-le (message_size s) s (within s))

-- with none left nothing is laid
pub none : (n : ℕ) (s : List ℕ) → length s ≡ 0 → framed_by n s ≡ []
unfolding framed_by
none zero s e = refl
none (suc n) [] e = refl
none (suc n) (x ∷ s) e = absurd (omega arith)

opened : (n : ℕ) (s : List ℕ) → 0 < length s → framed_by (suc n) s ≡ frame_of (take (message_size s) s) ++ framed_by n (drop (message_size s) s)
unfolding framed_by
opened n [] h = absurd (omega arith)
opened n (x ∷ s) h = refl

-- a bound that is no less than the bytes is none
same : (n k : ℕ) (s : List ℕ) → length s ≤ n → length s ≤ k → framed_by n s ≡ framed_by k s
same zero k s h g = none 0 s (omega arith) ∙ sym (none k s (omega arith))
same (suc n) zero s h g = none (suc n) s (omega arith) ∙ sym (none 0 s (omega arith))
same (suc n) (suc k) [] h g = none (suc n) [] refl ∙ sym (none (suc k) [] refl)
same (suc n) (suc k) (x ∷ s) h g =
    let l : List ℕ = x ∷ s in
    let e : length (drop (message_size l) l) ≡ length l - message_size l = length-drop (message_size l) l in
    opened n l (omega arith)
    ∙ ap (λ (z : List ℕ). frame_of (take (message_size l) l) ++ z) (same n k (drop (message_size l) l) (omega (arith, some l (omega arith))) (omega (arith, some l (omega arith))))
    ∙ sym (opened k l (omega arith))

-- the first message's frame, and those of the rest
pub more : (s : List ℕ) → 0 < length s → framed s ≡ frame_of (take (message_size s) s) ++ framed (drop (message_size s) s)
more [] h = absurd (omega arith)
more (x ∷ s) h =
    let l : List ℕ = x ∷ s in
    let e : length (drop (message_size l) l) ≡ length l - message_size l = length-drop (message_size l) l in
    opened (length s) l (omega arith)
    ∙ ap (λ (z : List ℕ). frame_of (take (message_size l) l) ++ z)
    (same (length s) (length (drop (message_size l) l)) (drop (message_size l) l) (omega (arith, some l (omega arith))) (omega arith))

-- two bytes for each message: no more than the reply again, and one where a lone byte is left
bounded : (n : ℕ) (s : List ℕ) → length s ≤ n → length (framed_by n s) ≤ 2 * length s + min 1 (length s)
bounded zero s h = rw (none 0 s (omega arith)) (omega arith)
bounded (suc n) [] h = rw (none (suc n) [] refl) (omega arith)
bounded (suc n) (x ∷ s) h =
    let l : List ℕ = x ∷ s in
    let rest : List ℕ = drop (message_size l) l in
    let e : length rest ≡ length l - message_size l = length-drop (message_size l) l in
    let first : List ℕ = frame_of (take (message_size l) l) in
    let two-parts : length (framed_by (suc n) l) ≡ length first + length (framed_by n rest) = ap length (opened n l (omega arith)) ∙ length-append first (framed_by n rest) in
    let f : length (framed_by (suc n) l) ≡ 2 + message_size l + length (framed_by n rest) = two-parts ∙ ap (λ (k : ℕ). k + length (framed_by n rest)) (length_frame l) in
    omega (arith, bounded n rest (omega (arith, some l (omega arith))), nine l)

pub twice : (s : List ℕ) → length (framed s) ≤ 2 * length s + 1
twice s = omega (arith, bounded (length s) s (omega arith))

-- the next message of a reply, from place a on
module _ (s : List ℕ) (a n : ℕ) (h : a < length s) (e : n ≡ message_size (mid_of a (length s - a) s)) where
  here : n ≡ message_size (drop a s)
  here = e ∙ ap message_size (rest a s)

  pub inside : a + n ≤ length s
  inside = omega (arith, here, within (drop a s), length-drop a s)

  pub onward : 0 < n
  onward = rw here (some (drop a s) (omega (arith, length-drop a s)))

  pub piece : mid_of a (a + n - a) s ≡ take n (drop a s)
  piece = let q : a + n - a ≡ n = omega arith in rw q

  pub split : framed (drop a s) ≡ frame_of (mid_of a (a + n - a) s) ++ framed (drop (a + n) s)
  split = rw (piece, ← drop-drop n a s, here) (more (drop a s) (omega (arith, length-drop a s)))

  pub size : length (frame_of (mid_of a (a + n - a) s)) ≡ 2 + n
  size = rw (piece, here) (length_frame (drop a s))

  pub longer : length (framed (drop a s)) ≡ 2 + n + length (framed (drop (a + n) s))
  longer = ap length split ∙ length-append (frame_of (mid_of a (a + n - a) s)) (framed (drop (a + n) s)) ∙ ap (λ (k : ℕ). k + length (framed (drop (a + n) s))) size

-- a whole message, and what follows it
module _ (m later : List ℕ) (w : is_whole m ≡ true) where
  as_long : length m ≡ choose (is_extended m) 23 9
  as_long = eqb-true (length m) (choose (is_extended m) 23 9) w

  -- its flags are among its first nine bytes
  same_flags : flags_of (m ++ later) ≡ flags_of m
  same_flags = get_or-append m later 0 6 (omega (arith, as_long, nine m))

  first_size : message_size (m ++ later) ≡ length m
  first_size = rw (same_flags, ← as_long) (omega (arith, length-append m later))

  framed_first : framed (m ++ later) ≡ frame_of m ++ framed later
  framed_first =
      let some_bytes : 0 < length (m ++ later) = omega (arith, length-append m later, as_long, nine m) in
      more (m ++ later) some_bytes ∙ rw (first_size, take-append_seam m later, drop-append_seam m later)

-- the frames of whole messages are these messages, each in its frame
pub each_framed : (ms : List (List ℕ)) → ((i : ℕ) → i < length ms → is_whole (get_or ms i []) ≡ true) → framed (flatten ms) ≡ flatten (map frame_of ms)
unfolding flatten
each_framed [] w = none 0 [] refl
each_framed (m ∷ ms) w =
    framed_first m (flatten ms) (w 0 (omega arith))
    ∙ ap (λ (z : List ℕ). frame_of m ++ z) (each_framed ms (λ i h. w (suc i) (omega arith)))

-- a frame is two bytes, and the message laid behind them
pub in_frame : (out xs ys m : List ℕ) (x : ℕ) → 2 + length m ≤ length out → x ≡ marker_of m → xs ≡ laid_if_fits out (0x02 ∷ x ∷ [])
    → ys ≡ laid_if_fits (mid_of 2 (length xs - 2) xs) m → put_mid 2 (length xs - 2) xs ys ≡ laid_if_fits out (frame_of m)
in_frame out xs ys m x h e p q = behind out xs ys (0x02 ∷ marker_of m ∷ []) m h (rw e at p) q ∙ sym (fits out (frame_of m) (omega arith))

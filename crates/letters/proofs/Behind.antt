-- A piece more, laid behind what is laid.
use Rattle.std.proofs.Common.{◌≡◌, ℕ, ◌+◌, ◌-◌, ◌<◌, ◌≤◌, min, List, ◌++◌, length, take, drop, refl, sym, ap, ◌∙◌, append_assoc, arith, length-append, length-drop, length-take-le, take_at}
use Rattle.std.proofs.lemmas.List.{take_min, drop_min}
use lib.Seq.{drop_at}
use borrow.Author.Tests.{le-ltb, lt-ltb}
use borrow.Rule.Slice.PartMut.{put_mid, mid_of}
use Rattle.basis.specs.Choice.{choose}
use Rattle.basis.specs.Laid.{laid_if_fits}
use Rattle.basis.proofs.Laid.{inner}
use Rattle.letters.specs.Page.{cut_at}
use Rattle.letters.specs.Laid.{laid_behind}

module _ (n : ℕ) (xs text : List ℕ) (inside : n ≤ length xs) where
  -- it fits
  grown : (ys : List ℕ) → length text ≤ length xs - n → ys ≡ laid_if_fits (mid_of n (length xs - n) xs) text
      → cut_at (n + length text) (put_mid n (length xs - n) xs ys) ≡ laid_behind (cut_at n xs) text
  unfolding laid_behind choose
  grown ys h e =
      let laid : List ℕ = take n xs ++ text in
      let behind : List ℕ = drop (length text) (drop n xs) in
      let whole : put_mid n (length xs - n) xs ys ≡ laid ++ behind = inner n xs ys text h e ∙ sym (append_assoc (take n xs) text behind) in
      let size : length laid ≡ n + length text =
      length-append (take n xs) text ∙ ap (λ (k : ℕ). k + length text) (length-take-le n xs inside) in
      let fits : length text ≤ length (drop n xs) = omega (arith, h, length-drop n xs) in
      rw (le-ltb (length (drop n xs)) (length text) fits, whole, take_at laid behind (n + length text) size, drop_at laid behind (n + length text) size) refl

  -- it does not, and is left out
  left : length xs - n < length text → cut_at n xs ≡ laid_behind (cut_at n xs) text
  unfolding laid_behind choose
  left h =
      let over : length (drop n xs) < length text = omega (arith, h, length-drop n xs) in
      rw (lt-ltb (length (drop n xs)) (length text) over) refl

-- a line has no place behind its end
from_end : (at : ℕ) (xs : List ℕ) → cut_at (min at (length xs)) xs ≡ cut_at at xs
from_end at xs = rw (take_min at xs, drop_min at xs) refl

-- the same from any place, which the end stands for where it lies behind it
module _ (at n : ℕ) (xs text : List ℕ) (from : n ≡ min at (length xs)) where
  inside : n ≤ length xs
  inside = omega (arith, from)

  there : laid_behind (cut_at n xs) text ≡ laid_behind (cut_at at xs) text
  there = rw from (ap (λ p. laid_behind p text) (from_end at xs))

  pub put_grown : (ys : List ℕ) → length text ≤ length xs - n → ys ≡ laid_if_fits (mid_of n (length xs - n) xs) text
      → cut_at (n + length text) (put_mid n (length xs - n) xs ys) ≡ laid_behind (cut_at at xs) text
  put_grown ys h e = grown n xs text inside ys h e ∙ there

  pub put_left : length xs - n < length text → cut_at n xs ≡ laid_behind (cut_at at xs) text
  put_left h = left n xs text inside h ∙ there

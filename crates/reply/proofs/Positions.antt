-- How many records are sent, by their places.
use Prim.Native.Nat.{ℕ, ◌+◌, ◌-◌, ◌≤◌, ◌<◌, min}
use mathlib.Core.Path.{◌≡◌, refl}
use mathlib.Core.Bool.{Bool, true, false}
use mathlib.Core.List.{List}
use mathlib.Core.Logic.{◌⊎◌, inl, inr}
use native.Mathlib.Omega.{arith}
use lib.Dec.{eqb, ltb}
use borrow.Author.Tests.{eqb-true, eqb-false, ltb-true, ltb-false}
use Rattle.basis.specs.Choice.{choose}
use Rattle.basis.specs.First.{first_from}
use Rattle.basis.proofs.First.{Told, at, nowhere, told}
use Rattle.basis.proofs.Tests.{clash}
use Rattle.links.specs.Record.{records}
use Rattle.links.specs.Mark.{mark_at, up_to_mark}
use Rattle.reply.specs.Records.{limit, count_sent}
use Rattle.reply.specs.Positions.{Ending, asked, marked, memory-end, SentFrom}

-- what bounds them: the count, 00 for none, and the memory's end
record Bound (l : List ℕ) (k count n : ℕ) : Type 0 where
  some : 1 ≤ n
  few : (count ≡ 0) ⊎ (n ≤ count)
  inside : k + n ≤ records l
  met : (n ≡ count) ⊎ (k + n ≡ records l)

bounded : (l : List ℕ) (k count : ℕ) → k < records l → Bound l k count (limit l k count)
unfolding choose
bounded l k count h = go (eqb count 0) refl
  where
    go : (t : Bool) → eqb count 0 ≡ t → Bound l k count (min (records l - k) (choose t (records l) count))
    go true q =
        let e : min (records l - k) (records l) ≡ records l - k = omega arith in
        rw e (record { some = omega arith; few = inl (eqb-true count 0 q); inside = omega arith; met = inr (omega arith) })
    go false q = by_count (ltb count (records l - k)) refl
      where
        by_count : (t : Bool) → ltb count (records l - k) ≡ t → Bound l k count (min (records l - k) count)
        by_count true p =
            let e : min (records l - k) count ≡ count = omega (arith, ltb-true count (records l - k) p) in
            rw e
            (record {
              some = omega (arith, eqb-false count 0 q);
              few = inr (omega arith);
              inside = omega (arith, ltb-true count (records l - k) p);
              met = inl refl;
            })
        by_count false p =
            let e : min (records l - k) count ≡ records l - k = omega (arith, ltb-false count (records l - k) p) in
            rw e (record { some = omega arith; few = inr (omega (arith, ltb-false count (records l - k) p)); inside = omega arith; met = inr (omega arith) })

module _ (l : List ℕ) (k count : ℕ) where
  fewer : (n m : ℕ) → m ≤ n → (count ≡ 0) ⊎ (n ≤ count) → (count ≡ 0) ⊎ (m ≤ count)
  fewer n m h (inl e) = inl e
  fewer n m h (inr e) = inr (omega arith)

  as_bound : (n : ℕ) → (n ≡ count) ⊎ (k + n ≡ records l) → Ending l k count n
  as_bound n (inl e) = asked e
  as_bound n (inr e) = memory-end e

  -- of n records those up to the first end mark
  up_to : (n : ℕ) → Bound l k count n → (m : ℕ) → Told (mark_at l) n k m → SentFrom l k count (min n (m + 1 - k))
  up_to n b m (at a) =
      let e : min n (m + 1 - k) ≡ m + 1 - k = omega (arith, a.inside) in
      let last : k + (m - k) ≡ m = omega (arith, a.from) in
      rw e
      (record {
        some = omega (arith, a.from);
        few = fewer n (m + 1 - k) (omega (arith, a.inside)) b.few;
        inside = omega (arith, a.inside, b.inside);
        unmarked = λ j g. a.before (k + j) (omega arith) (omega (arith, a.from));
        ending = marked (m - k) (omega (arith, a.from)) (rw last a.holds);
      })
  up_to n b m (nowhere w) =
      let e : min n (m + 1 - k) ≡ n = omega (arith, w.behind) in
      rw e
      (record {
        some = b.some;
        few = b.few;
        inside = b.inside;
        unmarked = λ j g. w.never (k + j) (omega arith) (omega arith);
        ending = as_bound n b.met;
      })

  pub counted : k < records l → SentFrom l k count (count_sent l k count)
  unfolding up_to_mark
  counted h =
      let n : ℕ = limit l k count in
      up_to n (bounded l k count h) (first_from (mark_at l) n k) (told (mark_at l) n k)

  -- no smaller number is all
  not_fewer : (n m : ℕ) → SentFrom l k count n → SentFrom l k count m → n < m → ⊥
  not_fewer n m a b h = go a.ending
    where
      by_count : n ≡ count → (count ≡ 0) ⊎ (m ≤ count) → ⊥
      by_count e (inl z) = omega (arith, a.some)
      by_count e (inr z) = omega arith

      go : Ending l k count n → ⊥
      go (asked e) = by_count e b.few
      go (marked j e mark) = clash mark (b.unmarked j (omega arith))
      go (memory-end e) = omega (arith, b.inside)

  pub only : (n m : ℕ) → SentFrom l k count n → SentFrom l k count m → n ≡ m
  only n m a b = go (ltb n m) (ltb m n) refl refl
    where
      go : (t u : Bool) → ltb n m ≡ t → ltb m n ≡ u → n ≡ m
      go true u p q = absurd (not_fewer n m a b (ltb-true n m p))
      go false true p q = absurd (not_fewer m n b a (ltb-true m n q))
      go false false p q = omega (arith, ltb-false n m p, ltb-false m n q)

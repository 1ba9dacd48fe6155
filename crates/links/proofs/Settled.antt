-- The search comes to what the places of records say.
use Prim.Native.Nat.{ℕ, ◌<◌}
use mathlib.Core.Path.{◌≡◌, refl}
use mathlib.Core.Bool.{Bool, true, false}
use mathlib.Core.List.{List}
use native.Mathlib.Omega.{arith}
use lib.Dec.{ltb}
use borrow.Author.Tests.{ltb-true, ltb-false}
use Rattle.basis.proofs.Tests.{clash, both, neither}
use Rattle.std.specs.Prelude.{Some}
use Rattle.basis.specs.First.{first_from}
use Rattle.basis.proofs.First.{Told, at, nowhere, told}
use Rattle.links.specs.declared.search.Wanted.{Wanted}
use Rattle.links.specs.Record.{records, record_at, is_in_use, is_end_mark}
use Rattle.links.specs.Search.{matches, settles_at, stop_of, stopped_at, search_of}
use Rattle.links.specs.Settled.{LiveMatch, Settled, matched, ended, exhausted}
use Rattle.links.proofs.Stop.{at_memory_end, at_end_mark, at_match}

module _ (l : List ℕ) (w : Wanted) where
  -- a live record that is looked for settles the search
  is_match : (k : ℕ) → LiveMatch l w k → matches w (record_at l k) ≡ true
  is_match k m = rw (m.live.used, m.wanted)

  -- where nothing before k settles it, none before k is a match
  none_before : (k : ℕ) → ((j : ℕ) → j < k → settles_at l w j ≡ false) → (j : ℕ) → j < k → LiveMatch l w j → ⊥
  none_before k h j g m = clash (is_match j m) (neither (is_end_mark (record_at l j)) _ (h j g)).1

  unmarked_before : (k : ℕ) → ((j : ℕ) → j < k → settles_at l w j ≡ false) → (j : ℕ) → j < k → is_end_mark (record_at l j) ≡ false
  unmarked_before k h j g = (neither (is_end_mark (record_at l j)) _ (h j g)).0

  -- it stops at record k
  here : (k : ℕ) → k < records l → settles_at l w k ≡ true → ((j : ℕ) → j < k → settles_at l w j ≡ false) → Settled l w (stopped_at l k)
  here k i s h = go (is_end_mark (record_at l k)) refl
    where
      -- no live record stands at an end mark or behind it
      past : is_end_mark (record_at l k) ≡ true → (j : ℕ) → LiveMatch l w j → ⊥
      past e j m = by (ltb j k) (ltb k j) refl refl
        where
          by : (t u : Bool) → ltb j k ≡ t → ltb k j ≡ u → ⊥
          by true u p q = none_before k h j (ltb-true j k p) m
          by false true p q = clash e (m.live.before k (ltb-true k j q))
          by false false p q =
              let same : j ≡ k = omega (arith, ltb-false j k p, ltb-false k j q) in
              clash e (rw same at m.live.unmarked)

      go : (e : Bool) → is_end_mark (record_at l k) ≡ e → Settled l w (stopped_at l k)
      go true e = rw (at_end_mark l k i e) (ended k (record { inside = i; unused = e; before = unmarked_before k h }) (past e))
      go false e =
          let m = both (is_in_use (record_at l k)) _ (rw e at s) in
          rw (at_match l k i e) (matched k (record { live = record { inside = i; used = m.0; unmarked = e; before = unmarked_before k h }; wanted = m.1 }) (none_before k h))

  -- a search that is made is settled so
  pub settled : Settled l w (search_of l (Some w))
  unfolding stop_of
  settled = go (first_from (settles_at l w) (records l) 0) (told (settles_at l w) (records l) 0)
    where
      go : (k : ℕ) → Told (settles_at l w) (records l) 0 k → Settled l w (stopped_at l k)
      go k (at a) = here k (omega (arith, a.inside)) a.holds (λ j g. a.before j (omega arith) g)
      go k (nowhere n) =
          let all : (j : ℕ) → j < records l → settles_at l w j ≡ false = λ j g. n.never j (omega arith) (omega arith) in
          rw (at_memory_end l k (omega (arith, n.behind)))
          (exhausted (unmarked_before (records l) all) (λ j m. none_before (records l) all j m.live.inside m))

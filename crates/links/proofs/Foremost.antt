-- A search finds the first live record that is looked for, and nothing else of link memory matters to it.
use Prim.Native.Nat.{ℕ, zero, suc, ◌+◌}
use mathlib.Core.Path.{◌≡◌, refl, sym, ◌∙◌, ap, subst}
use mathlib.Core.Bool.{Bool, true, false}
use mathlib.Core.List.{List, [], ◌∷◌}
use native.Mathlib.Omega.{arith}
use lib.ListN.{get_or}
use Rattle.std.specs.Prelude.{Option, Some, None, Result, Ok, Err, is_ok}
use Rattle.basis.specs.Choice.{choose}
use Rattle.basis.specs.First.{first_from}
use Rattle.basis.proofs.First.{none, here, later}
use Rattle.basis.proofs.Tests.{clash}
use Rattle.links.specs.declared.memory.Link.{Link}
use Rattle.links.specs.declared.search.Wanted.{Wanted}
use Rattle.links.specs.declared.search.Missing.{Missing}
use Rattle.links.specs.Record.{records, record_at, link_of, is_in_use, is_end_mark}
use Rattle.links.specs.Search.{answers, settles_at, stop_of, stopped_at, search_of, if_found}
use Rattle.links.specs.LiveList.{live_from, live_list, FirstWanted, NoneWanted, SearchesFindFirst, SameFound, in_both, in-neither, FoundByList}
use Rattle.links.proofs.Following.{told_by}
use Rattle.links.proofs.Stop.{at_memory_end, at_end_mark, at_match}

-- what follows from the first record of a list that is looked for, or from none
unfoldable pick : {A : Type 0} → Wanted → (Link → A) → A → List (List ℕ) → A
pick w then otherwise [] = otherwise
pick w then otherwise (r ∷ rs) = choose (answers w r) (then (link_of r)) (pick w then otherwise rs)

module _ {A : Type 0} (w : Wanted) (then : Link → A) (otherwise : A) where
  pick_first : (rs : List (List ℕ)) (i : ℕ) → FirstWanted w rs i → pick w then otherwise rs ≡ then (link_of (get_or rs i []))
  unfolding pick choose
  pick_first [] i f = absurd (omega (arith, f.inside))
  pick_first (r ∷ rs) zero f = rw f.wanted
  pick_first (r ∷ rs) (suc i) f =
      rw (f.before 0 (omega arith))
      (pick_first rs i (record { inside = omega (arith, f.inside); wanted = f.wanted; before = λ j h. f.before (suc j) (omega arith) }))

  pick_none : (rs : List (List ℕ)) → NoneWanted w rs → pick w then otherwise rs ≡ otherwise
  unfolding pick choose
  pick_none [] f = refl
  pick_none (r ∷ rs) f = rw (f 0 (omega arith)) (pick_none rs (λ j h. f (suc j) (omega arith)))

  -- what follows from the search follows from the live records
  module _ (l : List ℕ) where
    abbrev Agree : ℕ → ℕ → Type 0
    Agree n k = if_found (stopped_at l (first_from (settles_at l w) n k)).found then otherwise ≡ pick w then otherwise (live_from (record_at l) n k)

    agree : (n k : ℕ) → k + n ≡ records l → Agree n k
    unfolding live_from pick choose
    agree zero k e = rw (none (settles_at l w) k, at_memory_end l k (omega arith))
    agree (suc n) k e = go (is_end_mark (record_at l k)) (is_in_use (record_at l k)) (answers w (record_at l k)) refl refl refl (agree n (k + 1) (omega arith))
      where
        go : (m u a : Bool) → is_end_mark (record_at l k) ≡ m → is_in_use (record_at l k) ≡ u → answers w (record_at l k) ≡ a → Agree n (k + 1) → Agree (suc n) k
        go true u a p q r ih =
            let settled : settles_at l w k ≡ true = rw p in
            rw (here (settles_at l w) (suc n) k (omega arith) settled, at_end_mark l k (omega arith) p, p)
        go false true true p q r ih =
            let settled : settles_at l w k ≡ true = rw (p, q, r) in
            rw (here (settles_at l w) (suc n) k (omega arith) settled, at_match l k (omega arith) p, p, q, r)
        go false true false p q r ih =
            let unsettled : settles_at l w k ≡ false = rw (p, q, r) in
            rw (later (settles_at l w) (suc n) k (omega arith) unsettled, p, q, r) ih
        go false false a p q r ih =
            let unsettled : settles_at l w k ≡ false = rw (p, q) in
            rw (later (settles_at l w) (suc n) k (omega arith) unsettled, p, q) ih

    searched : if_found (search_of l (Some w)).found then otherwise ≡ pick w then otherwise (live_list l)
    unfolding stop_of
    searched = agree (records l) 0 (omega arith)

-- a list of which nothing follows has none that is looked for
unpicked : (w : Wanted) (rs : List (List ℕ)) → pick w (λ link. true) false rs ≡ false → NoneWanted w rs
unfolding pick choose
unpicked w [] e j h = absurd (omega arith)
unpicked w (r ∷ rs) e j h = go (answers w r) refl e (unpicked w rs) j h
  where
    go : (a : Bool) → answers w r ≡ a → choose a true (pick w (λ link. true) false rs) ≡ false → (pick w (λ link. true) false rs ≡ false → NoneWanted w rs)
        → NoneWanted w (r ∷ rs)
    go true q f ih j h = clash refl f
    go false q f ih zero h = q
    go false q f ih (suc j) h = ih f j (omega arith)

-- a link that follows from what was found was found
found_link : (f : Result Link Missing) (link : Link) → if_found f Ok (Err Missing.NoSearch) ≡ Ok link → f ≡ Ok link
found_link (Ok other) link e = e
found_link (Err missing) link e = absurd (let z : ◌≡◌ {A = ℕ} 0 1 = cc in omega arith)

pub finds_first : SearchesFindFirst
finds_first l w =
    record {
      first_found = λ i f. found_link _ _ (searched w Ok (Err Missing.NoSearch) l ∙ pick_first w Ok (Err Missing.NoSearch) (live_list l) i f);
      none_found = (λ e. unpicked w (live_list l) (sym is ∙ e), λ n. is ∙ pick_none w (λ link. true) false (live_list l) n);
    }
  where
    is : is_ok (search_of l (Some w)).found ≡ pick w (λ link. true) false (live_list l)
    is = told_by (search_of l (Some w)).found ∙ searched w (λ link. true) false l

-- of two memories with one list of live records the same follows
pub same_follows : {A : Type 0} (l m : List ℕ) (w : Option Wanted) (then : Link → A) (otherwise : A) → live_list l ≡ live_list m
    → if_found (search_of l w).found then otherwise ≡ if_found (search_of m w).found then otherwise
same_follows l m (Some w) then otherwise e = searched w then otherwise l ∙ ap (pick w then otherwise) e ∙ sym (searched w then otherwise m)
same_follows l m None then otherwise e = refl

pub found_by_list : FoundByList
found_by_list l m w e = go (search_of l w).found (search_of m w).found (same_follows l m w Ok (Err Missing.NoSearch) e) (same_follows l m w (λ link. true) false e)
  where
    go : (f g : Result Link Missing) → if_found f Ok (Err Missing.NoSearch) ≡ if_found g Ok (Err Missing.NoSearch) → if_found f (λ link. true) false ≡ if_found g (λ link. true) false → SameFound f g
    go (Ok link) g p q = subst (SameFound (Ok link)) (sym (found_link g link (sym p))) (in_both link)
    go (Err e) g p q = in-neither (Err e) g refl (told_by g ∙ sym q)

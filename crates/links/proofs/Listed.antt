-- The list of live records is that of the live places, in rising order.
use Prim.Native.Nat.{ℕ, zero, suc, ◌+◌, ◌≤◌, ◌<◌}
use mathlib.Core.Path.{◌≡◌, refl, sym, ◌∙◌, ap}
use mathlib.Core.Bool.{Bool, true, false}
use mathlib.Core.List.{List, [], ◌∷◌, map}
use mathlib.Core.Logic.{◌⊎◌, inl, inr}
use native.Mathlib.Omega.{arith}
use lib.Dec.{eqb}
use lib.ListN.{length, get_or, length-map}
use borrow.Author.Tests.{eqb-true, eqb-false}
use Rattle.basis.specs.Choice.{choose}
use Rattle.basis.proofs.Tests.{clash}
use Rattle.links.specs.Record.{records, record_at, is_in_use, is_end_mark, bears}
use Rattle.links.specs.Live.{Live, Linked}
use Rattle.links.specs.LiveList.{live_from, live_list, Among, InOrder, ListsLive, SomeBears, LinkedByList}

-- one more place in front
first : (k : ℕ) (ks : List ℕ) → Among k (k ∷ ks)
first k ks = record { at = 0; inside = omega arith; is = refl }

later : (j k : ℕ) (ks : List ℕ) → Among j ks → Among j (k ∷ ks)
later j k ks a = record { at = suc a.at; inside = omega (arith, a.inside); is = a.is }

one_of : (j k : ℕ) (ks : List ℕ) → Among j (k ∷ ks) → (j ≡ k) ⊎ Among j ks
one_of j k ks a = go a.at a.inside a.is
  where
    go : (i : ℕ) → i < length (k ∷ ks) → get_or (k ∷ ks) i 0 ≡ j → (j ≡ k) ⊎ Among j ks
    go zero h e = inl (sym e)
    go (suc i) h e = inr (record { at = i; inside = omega arith; is = e })

abbrev Rising : List ℕ → Type 0
Rising ks = (i : ℕ) → i + 1 < length ks → get_or ks i 0 < get_or ks (i + 1) 0

module _ (at : ℕ → List ℕ) where
  -- the live places of the n from k on
  unfoldable places_from : ℕ → ℕ → List ℕ
  places_from zero k = []
  places_from (suc n) k =
      let behind : List ℕ = places_from n (k + 1) in
      choose (is_end_mark (at k)) [] (choose (is_in_use (at k)) (k ∷ behind) behind)

  record LiveFrom (n k j : ℕ) : Type 0 where
    from : k ≤ j
    inside : j < k + n
    used : is_in_use (at j) ≡ true
    unmarked : is_end_mark (at j) ≡ false
    before : (i : ℕ) → k ≤ i → i < j → is_end_mark (at i) ≡ false

  -- what is live from k + 1 on is so from k on, if no end mark stands at k
  from_here : (n k j : ℕ) → is_end_mark (at k) ≡ false → LiveFrom n (k + 1) j → LiveFrom (suc n) k j
  from_here n k j e h =
      record {
        from = omega (arith, h.from);
        inside = omega (arith, h.inside);
        used = h.used;
        unmarked = h.unmarked;
        before = λ i a b. go i a b (eqb i k) refl;
      }
    where
      go : (i : ℕ) → k ≤ i → i < j → (t : Bool) → eqb i k ≡ t → is_end_mark (at i) ≡ false
      go i a b true q = rw (eqb-true i k q) e
      go i a b false q = h.before i (omega (arith, eqb-false i k q)) b

  -- and what is live from k on stands at k or is so from k + 1 on
  from_next : (n k j : ℕ) → (j ≡ k → ⊥) → LiveFrom (suc n) k j → LiveFrom n (k + 1) j
  from_next n k j other h =
      record {
        from = omega (arith, h.from);
        inside = omega (arith, h.inside);
        used = h.used;
        unmarked = h.unmarked;
        before = λ i a b. h.before i (omega arith) b;
      }

  -- the places listed are live
  only_live : (n k j : ℕ) → Among j (places_from n k) → LiveFrom n k j
  unfolding places_from choose
  only_live zero k j a = absurd (omega (arith, a.inside))
  only_live (suc n) k j a = go (is_end_mark (at k)) (is_in_use (at k)) refl refl (only_live n (k + 1) j) a
    where
      go : (e u : Bool) → is_end_mark (at k) ≡ e → is_in_use (at k) ≡ u → (Among j (places_from n (k + 1)) → LiveFrom n (k + 1) j)
          → Among j (choose e [] (choose u (k ∷ places_from n (k + 1)) (places_from n (k + 1)))) → LiveFrom (suc n) k j
      go true u p q ih b = absurd (omega (arith, b.inside))
      go false false p q ih b = from_here n k j p (ih b)
      go false true p q ih b = by (one_of j k (places_from n (k + 1)) b)
        where
          by : (j ≡ k) ⊎ Among j (places_from n (k + 1)) → LiveFrom (suc n) k j
          by (inl e) =
              rw e (record { from = omega arith; inside = omega arith; used = q; unmarked = p; before = λ i x y. absurd (omega arith) })
          by (inr c) = from_here n k j p (ih c)

  -- and every live place is listed
  all_live : (n k j : ℕ) → LiveFrom n k j → Among j (places_from n k)
  unfolding places_from choose
  all_live zero k j h = absurd (omega (arith, h.from, h.inside))
  all_live (suc n) k j h = go (is_end_mark (at k)) (is_in_use (at k)) (eqb j k) refl refl refl (all_live n (k + 1) j)
    where
      go : (e u t : Bool) → is_end_mark (at k) ≡ e → is_in_use (at k) ≡ u → eqb j k ≡ t → (LiveFrom n (k + 1) j → Among j (places_from n (k + 1)))
          → Among j (choose e [] (choose u (k ∷ places_from n (k + 1)) (places_from n (k + 1))))
      go true u true p q r ih = clash p (rw (eqb-true j k r) at h.unmarked)
      go true u false p q r ih = clash p (h.before k (omega arith) (omega (arith, h.from, eqb-false j k r)))
      go false false true p q r ih = clash (rw (eqb-true j k r) at h.used) q
      go false false false p q r ih = ih (from_next n k j (eqb-false j k r) h)
      go false true true p q r ih = rw (eqb-true j k r) (first k (places_from n (k + 1)))
      go false true false p q r ih = later j k (places_from n (k + 1)) (ih (from_next n k j (eqb-false j k r) h))

  rise : (n k : ℕ) → Rising (places_from n k)
  unfolding places_from choose
  rise zero k i h = absurd (omega arith)
  rise (suc n) k i h = go (is_end_mark (at k)) (is_in_use (at k)) (rise n (k + 1)) h
    where
      up : Rising (places_from n (k + 1)) → Rising (k ∷ places_from n (k + 1))
      up ih zero g =
          let next : k + 1 ≤ get_or (places_from n (k + 1)) 0 0 = (only_live n (k + 1) _ (record { at = 0; inside = omega arith; is = refl })).from in
          omega (arith, next)
      up ih (suc j) g = let e : suc j + 1 ≡ suc (j + 1) = omega arith in rw e (ih j (omega arith))

      go : (e u : Bool) → Rising (places_from n (k + 1)) → i + 1 < length (choose e [] (choose u (k ∷ places_from n (k + 1)) (places_from n (k + 1))))
          → get_or (choose e [] (choose u (k ∷ places_from n (k + 1)) (places_from n (k + 1)))) i 0
          < get_or (choose e [] (choose u (k ∷ places_from n (k + 1)) (places_from n (k + 1)))) (i + 1) 0
      go true u ih g = absurd (omega arith)
      go false true ih g = up ih i g
      go false false ih g = ih i g

  -- the list has what stands there
  by_place : (n k : ℕ) → live_from at n k ≡ map at (places_from n k)
  unfolding live_from places_from choose
  by_place zero k = refl
  by_place (suc n) k = go (is_end_mark (at k)) (is_in_use (at k)) (by_place n (k + 1))
    where
      go : (e u : Bool) → live_from at n (k + 1) ≡ map at (places_from n (k + 1))
          → choose e [] (choose u (at k ∷ live_from at n (k + 1)) (live_from at n (k + 1)))
          ≡ map at (choose e [] (choose u (k ∷ places_from n (k + 1)) (places_from n (k + 1))))
      go true u ih = refl
      go false true ih = ap (λ (z : List (List ℕ)). at k ∷ z) ih
      go false false ih = ih

pub in_order : ListsLive
in_order l =
    record {
      places = places_from (record_at l) (records l) 0;
      rising = rise (record_at l) (records l) 0;
      live = λ k. (λ h. all_live (record_at l) (records l) 0 k (from_start k h), λ a. whole k (only_live (record_at l) (records l) 0 k a));
      listed = by_place (record_at l) (records l) 0;
    }
  where
    from_start : (k : ℕ) → Live l k → LiveFrom (record_at l) (records l) 0 k
    from_start k h =
        record { from = omega arith; inside = omega (arith, h.inside); used = h.used; unmarked = h.unmarked; before = λ i a b. h.before i b }

    whole : (k : ℕ) → LiveFrom (record_at l) (records l) 0 k → Live l k
    whole k h = record { inside = omega (arith, h.inside); used = h.used; unmarked = h.unmarked; before = λ i b. h.before i (omega arith) b }

-- what stands at a place of the list
mapped : (f : ℕ → List ℕ) (ks : List ℕ) (i : ℕ) → i < length ks → get_or (map f ks) i [] ≡ f (get_or ks i 0)
mapped f [] i h = absurd (omega arith)
mapped f (k ∷ ks) zero h = refl
mapped f (k ∷ ks) (suc i) h = mapped f ks i (omega arith)

pub linked_by_list : LinkedByList
linked_by_list l a = (there, back)
  where
    o : InOrder l
    o = in_order l

    record_of : (i : ℕ) → i < length o.places → get_or (live_list l) i [] ≡ record_at l (get_or o.places i 0)
    record_of i h = ap (λ (z : List (List ℕ)). get_or z i []) o.listed ∙ mapped (record_at l) o.places i h

    as_many : length (live_list l) ≡ length o.places
    as_many = ap length o.listed ∙ length-map o.places (record_at l)

    there : Linked l a → SomeBears (live_list l) a
    there h =
        let p = (o.live h.place).0 h.live in
        let r : get_or (live_list l) p.at [] ≡ record_at l h.place = record_of p.at p.inside ∙ ap (record_at l) p.is in
        record { at = p.at; inside = omega (arith, p.inside, as_many); its = ap (λ (z : List ℕ). bears z a) r ∙ h.its }

    back : SomeBears (live_list l) a → Linked l a
    back s =
        let i : ℕ = s.at in
        let h : i < length o.places = omega (arith, s.inside, as_many) in
        record {
          place = get_or o.places i 0;
          live = (o.live (get_or o.places i 0)).1 (record { at = i; inside = h; is = refl });
          its = ap (λ (z : List ℕ). bears z a) (sym (record_of i h)) ∙ s.its;
        }

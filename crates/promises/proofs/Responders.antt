-- What a search for a responder finds.
use Prim.Native.Nat.{ℕ, ◌<◌}
use mathlib.Core.Path.{◌≡◌, refl}
use mathlib.Core.Bool.{Bool, true, ◌&&◌}
use mathlib.Core.List.{List}
use mathlib.Core.Logic.{◌⊎◌, inl, inr}
use lib.Dec.{eqb}
use borrow.Author.Tests.{eq-eqb, eqb-true}
use Rattle.std.specs.Prelude.{Some}
use Rattle.basis.proofs.Tests.{both}
use Rattle.basis.proofs.First.{one_first}
use Rattle.wire.specs.declared.address.Address.{Address}
use Rattle.links.specs.declared.memory.Link.{Link}
use Rattle.links.specs.declared.search.Wanted.{Wanted}
use Rattle.links.specs.declared.search.Searched.{Searched}
use Rattle.links.specs.Record.{record_at, link_of, is_responder, bears}
use Rattle.links.specs.Search.{search_of, if_found}
use Rattle.links.specs.Settled.{LiveMatch, Settled, matched, ended, exhausted}
use Rattle.links.proofs.Settled.{settled}
use Rattle.promises.specs.Responders.{Responder, FirstResponder, NoResponder}

all_three : (a b c : Bool) → a ≡ true → b ≡ true → c ≡ true → a && b && c ≡ true
all_three a b c p q r = rw (p, q, r)

module _ (l : List ℕ) (a : Address) (g : ℕ) where
  abbrev wanted : Wanted
  wanted = Wanted.Responder a g

  -- what is looked for is a responder of that sender and group
  pub as_match : (k : ℕ) → Responder l a g k → LiveMatch l wanted k
  as_match k r = record { live = r.live; wanted = all_three _ _ _ r.its r.responds (eq-eqb (link_of (record_at l k)).group g r.in_group) }

  pub as_responder : (k : ℕ) → LiveMatch l wanted k → Responder l a g k
  as_responder k m =
      let r = record_at l k in
      let p = both (bears r a && is_responder r) (eqb (link_of r).group g) m.wanted in
      let q = both (bears r a) (is_responder r) p.0 in
      record { live = m.live; its = q.0; responds = q.1; in_group = eqb-true (link_of r).group g p.1 }

  as_first : (k : ℕ) → LiveMatch l wanted k → ((j : ℕ) → j < k → ¬ LiveMatch l wanted j) → FirstResponder l a g k
  as_first k m before = record { responder = as_responder k m; first = λ j h r. before j h (as_match j r) }

  module _ {A : Type 0} (then : Link → A) (none : A) where
    -- the first one decides
    pub found_first : (k : ℕ) → FirstResponder l a g k → if_found (search_of l (Some wanted)).found then none ≡ then (link_of (record_at l k))
    found_first k r = go (search_of l (Some wanted)) (settled l wanted)
      where
        go : (f : Searched) → Settled l wanted f → if_found f.found then none ≡ then (link_of (record_at l k))
        go f (matched j m before) = rw (one_first (LiveMatch l wanted) j k m before (as_match k r.responder) (λ i h x. r.first i h (as_responder i x)))
        go f (ended j e no-match) = absurd (no-match k (as_match k r.responder))
        go f (exhausted e no-match) = absurd (no-match k (as_match k r.responder))

    pub found_none : NoResponder l a g → if_found (search_of l (Some wanted)).found then none ≡ none
    found_none nobody = go (search_of l (Some wanted)) (settled l wanted)
      where
        go : (f : Searched) → Settled l wanted f → if_found f.found then none ≡ none
        go f (matched j m before) = absurd (nobody j (as_responder j m))
        go f (ended j e no-match) = refl
        go f (exhausted e no-match) = refl

  -- one record decides
  pub one_decides : (j k : ℕ) → FirstResponder l a g j → FirstResponder l a g k → (P : Link → Type 0) → P (link_of (record_at l j)) → P (link_of (record_at l k))
  one_decides j k x y P p = rw (one_first (Responder l a g) j k x.responder x.first y.responder y.first) at p

  pub record SomeFirst : Type 0 where
    pub place : ℕ
    pub decides : FirstResponder l a g place

  pub first_or_none : SomeFirst ⊎ NoResponder l a g
  first_or_none = go (search_of l (Some wanted)) (settled l wanted)
    where
      go : (f : Searched) → Settled l wanted f → SomeFirst ⊎ NoResponder l a g
      go f (matched k m before) = inl (record { place = k; decides = as_first k m before })
      go f (ended k e no-match) = inr (λ j r. no-match j (as_match j r))
      go f (exhausted e no-match) = inr (λ j r. no-match j (as_match j r))

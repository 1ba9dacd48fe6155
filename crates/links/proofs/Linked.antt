-- Who is linked, and what a search of theirs finds.
use Prim.Native.Nat.{ℕ}
use mathlib.Core.Path.{◌≡◌, refl}
use mathlib.Core.Bool.{true, ◌&&◌}
use mathlib.Core.List.{List}
use mathlib.Core.Logic.{◌⊎◌, inl, inr}
use Rattle.std.specs.Prelude.{Some}
use Rattle.basis.proofs.Tests.{both}
use Rattle.wire.specs.declared.address.Address.{Address}
use Rattle.links.specs.declared.memory.Link.{Link}
use Rattle.links.specs.declared.search.Wanted.{Wanted}
use Rattle.links.specs.declared.search.Searched.{Searched}
use Rattle.links.specs.Record.{record_at, bears, is_responder}
use Rattle.links.specs.Live.{Linked}
use Rattle.links.specs.Search.{search_of, if_found}
use Rattle.links.specs.Settled.{LiveMatch, Settled, matched, ended, exhausted}
use Rattle.links.proofs.Settled.{settled}

module _ {A : Type 0} (l : List ℕ) (a : Address) (then : Link → A) (none : A) where
  -- a linked sender is found, whichever record it is
  pub found : (x : A) → ((link : Link) → then link ≡ x) → Linked l a → if_found (search_of l (Some (Wanted.Sender a))).found then none ≡ x
  found x same h = go (search_of l (Some (Wanted.Sender a))) (settled l (Wanted.Sender a))
    where
      it : LiveMatch l (Wanted.Sender a) h.place
      it = record { live = h.live; wanted = h.its }

      go : (f : Searched) → Settled l (Wanted.Sender a) f → if_found f.found then none ≡ x
      go f (matched k m first) = same _
      go f (ended k e no-match) = absurd (no-match h.place it)
      go f (exhausted e no-match) = absurd (no-match h.place it)

  -- of a stranger nothing is found, in no search
  module _ (stranger : Linked l a → ⊥) where
    pub unfound : if_found (search_of l (Some (Wanted.Sender a))).found then none ≡ none
    unfound = go (search_of l (Some (Wanted.Sender a))) (settled l (Wanted.Sender a))
      where
        go : (f : Searched) → Settled l (Wanted.Sender a) f → if_found f.found then none ≡ none
        go f (matched k m first) = absurd (stranger (record { place = k; live = m.live; its = m.wanted }))
        go f (ended k e no-match) = refl
        go f (exhausted e no-match) = refl

    pub unfound-in-group : (g : ℕ) → if_found (search_of l (Some (Wanted.Responder a g))).found then none ≡ none
    unfound-in-group g = go (search_of l (Some (Wanted.Responder a g))) (settled l (Wanted.Responder a g))
      where
        its : (k : ℕ) → LiveMatch l (Wanted.Responder a g) k → bears (record_at l k) a ≡ true
        its k m = (both (bears (record_at l k) a) (is_responder (record_at l k)) (both (bears (record_at l k) a && is_responder (record_at l k)) _ m.wanted).0).0

        go : (f : Searched) → Settled l (Wanted.Responder a g) f → if_found f.found then none ≡ none
        go f (matched k m first) = absurd (stranger (record { place = k; live = m.live; its = its k m }))
        go f (ended k e no-match) = refl
        go f (exhausted e no-match) = refl

-- every sender is linked or a stranger
pub linked_or_not : (l : List ℕ) (a : Address) → Linked l a ⊎ (Linked l a → ⊥)
linked_or_not l a = go (search_of l (Some (Wanted.Sender a))) (settled l (Wanted.Sender a))
  where
    none : ((k : ℕ) → LiveMatch l (Wanted.Sender a) k → ⊥) → Linked l a → ⊥
    none no-match h = no-match h.place (record { live = h.live; wanted = h.its })

    go : (f : Searched) → Settled l (Wanted.Sender a) f → Linked l a ⊎ (Linked l a → ⊥)
    go f (matched k m first) = inl (record { place = k; live = m.live; its = m.wanted })
    go f (ended k e no-match) = inr (none no-match)
    go f (exhausted e no-match) = inr (none no-match)

-- Records that are alike place by place link the same senders, and have one list of live records.
use Prim.Native.Nat.{ℕ, zero, suc, ◌+◌, ◌≤◌, ◌<◌}
use mathlib.Core.Path.{◌≡◌, refl, sym, ◌∙◌, ap}
use mathlib.Core.List.{List}
use native.Mathlib.Omega.{arith}
use Rattle.wire.specs.declared.address.Address.{Address}
use Rattle.links.specs.Record.{is_in_use, is_end_mark, bears}
use Rattle.links.specs.Live.{LiveOf, LinkedOf}
use Rattle.links.specs.LiveList.{live_from}

module _ (n : ℕ) (at to : ℕ → List ℕ) where
  pub live_alike : ((j : ℕ) → j < n → at j ≡ to j) → (k : ℕ) → LiveOf n at k → LiveOf n to k
  live_alike same k h =
      record {
        inside = h.inside;
        used = ap is_in_use (sym (same k h.inside)) ∙ h.used;
        unmarked = ap is_end_mark (sym (same k h.inside)) ∙ h.unmarked;
        before = λ j g. ap is_end_mark (sym (same j (omega (arith, h.inside)))) ∙ h.before j g;
      }

  pub linked_alike : (a : Address) → ((j : ℕ) → j < n → at j ≡ to j) → LinkedOf n at a → LinkedOf n to a
  linked_alike a same h =
      record {
        place = h.place;
        live = live_alike same h.place h.live;
        its = ap (λ (r : List ℕ). bears r a) (sym (same h.place h.live.inside)) ∙ h.its;
      }

  -- of any m places from k on
  pub list_alike : ((j : ℕ) → j < n → at j ≡ to j) → (m k : ℕ) → k + m ≤ n → live_from at m k ≡ live_from to m k
  unfolding live_from
  list_alike same zero k h = refl
  list_alike same (suc m) k h = rw (same k (omega arith), list_alike same m (k + 1) (omega arith))

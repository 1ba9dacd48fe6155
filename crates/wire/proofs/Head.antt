-- The nine bytes that every message has say what the whole message says.
use Prim.Native.Nat.{ℕ, ◌<◌}
use mathlib.Core.Path.{◌≡◌, ◌∙◌, ap}
use mathlib.Core.Bool.{true, false}
use mathlib.Core.List.{List}
use native.Mathlib.Omega.{arith}
use lib.ListN.{length, take, get_or}
use lib.Seq.{get_or-take}
use Rattle.std.specs.Prelude.{Option, Some, None, MatchOption}
use Rattle.std.proofs.Common.{Bor}
use Rattle.std.specs.Array.{IsFirstChunk}
use Rattle.wire.specs.declared.address.Address.{Address}
use Rattle.wire.specs.Bytes.{to_of, no_name, is_whole}
use Rattle.wire.specs.Kinds.{is_unheard, is_foreign, kind_of}
use Rattle.wire.proofs.Whole.{enough}

module _ (s h : List ℕ) (e : h ≡ take 9 s) where
  byte : (i : ℕ) → i < 9 → get_or h i 0 ≡ get_or s i 0
  byte i g = ap (λ (x : List ℕ). get_or x i 0) e ∙ get_or-take 9 s i 0 g

  pub same_to : to_of h ≡ to_of s
  same_to = rw (byte 3 (omega arith), byte 4 (omega arith), byte 5 (omega arith))

  pub same_unheard : is_unheard h ≡ is_unheard s
  same_unheard = rw (byte 6 (omega arith))

  pub same_foreign : (own : Address) → is_foreign h own ≡ is_foreign s own
  same_foreign own = rw (byte 3 (omega arith), byte 4 (omega arith), byte 5 (omega arith), byte 6 (omega arith))

  pub same_kind : kind_of h ≡ kind_of s
  unfolding kind_of
  same_kind =
      rw
      (byte 0 (omega arith), byte 1 (omega arith), byte 2 (omega arith), byte 3 (omega arith), byte 4 (omega arith), byte 5 (omega arith), byte 6 (omega arith), byte 7 (omega arith), byte 8 (omega arith))

-- a whole message has them
pub there : (s : List ℕ) (r : Option (Bor (List ℕ))) → is_whole s ≡ true → MatchOption r (length s < 9) (λ h. IsFirstChunk s h.now 9)
    → MatchOption r (is_whole s ≡ false) (λ h. (is_whole s ≡ true) × (h.now ≡ take 9 s))
there s None w short = absurd (omega (arith, enough s w, short))
there s (Some h) w first = (w, first.same)

-- the default address is nobody's
pub nobody : (a : Address) → (a.high ≡ 0) × ((a.middle ≡ 0) × (a.low ≡ 0)) → a ≡ no_name
nobody a e = λ x. record { high = e.0 x; middle = e.1.0 x; low = e.1.1 x }

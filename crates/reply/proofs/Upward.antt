-- Records sent one after another.
use Prim.Native.Nat.{ℕ, zero, suc, pred, ◌+◌, ◌*◌, ◌<◌}
use mathlib.Core.Path.{◌≡◌, refl, ◌∙◌}
use mathlib.Core.List.{List, [], ◌++◌}
use native.Mathlib.Omega.{arith}
use lib.ListN.{length, length-append}
use Rattle.wire.specs.declared.address.Address.{Address}
use Rattle.reply.specs.Records.{record_message, records_from}

module _ (own to : Address) (hops data1 : ℕ) (l : List ℕ) where
  pub none : (k : ℕ) → records_from own to hops data1 l 0 k ≡ []
  unfolding records_from
  none k = refl

  pub more : (n k : ℕ) → 0 < n → records_from own to hops data1 l n k ≡ record_message own to hops data1 l k ++ records_from own to hops data1 l (pred n) (k + 1)
  unfolding records_from
  more zero k h = absurd (omega arith)
  more (suc n) k h = refl

  pub length_records : (n k : ℕ) → length (records_from own to hops data1 l n k) ≡ 23 * n
  unfolding records_from
  length_records zero k = refl
  length_records (suc n) k = length-append (record_message own to hops data1 l k) (records_from own to hops data1 l n (k + 1)) ∙ omega (arith, length_records n (k + 1))

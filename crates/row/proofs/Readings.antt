-- What a message is read into, for whomever it is.
use Prim.Native.Nat.{ℕ}
use mathlib.Core.Path.{◌≡◌, refl}
use mathlib.Core.Bool.{Bool, true, false, ◌&&◌, ◌||◌, not}
use mathlib.Core.List.{List}
use lib.ListN.{length}
use borrow.Author.Tests.{eqb-true, not-false, le-ltb}
use Rattle.basis.specs.Choice.{choose}
use Rattle.basis.proofs.Tests.{clash, neither}
use Rattle.wire.specs.declared.address.Address.{Address}
use Rattle.wire.specs.Bytes.{to_of, named_in, is_extended, is_whole}
use Rattle.wire.specs.Kinds.{type_of, is_direct, is_cleanup, is_broadcast, is_unheard, is_astray, is_foreign}
use Rattle.wire.specs.Checksum.{is_sum_right, is_exempt, is_sum_wrong}
use Rattle.wire.specs.Reading.{read_of}
use Rattle.wire.proofs.Whole.{enough}
use Rattle.row.proofs.Named.{itself}

module _ (s : List ℕ) where
  -- a whole message says whom it is for
  pub says_to : is_whole s ≡ true → named_in s ≡ to_of s
  unfolding choose
  says_to h = rw (le-ltb (length s) 9 (enough s h))

  -- and is not astray where it is for
  pub only_unheard : (a : Address) → a ≡ to_of s → is_foreign s a ≡ is_unheard s
  only_unheard a e = rw (e, itself (to_of s)) (drops (is_unheard s) (is_direct s || is_cleanup s))
    where
      drops : (u d : Bool) → (u || (d && not true)) ≡ u
      drops true d = refl
      drops false true = refl
      drops false false = refl

  -- a broadcast is no other kind, is not extended, and is read alike by all
  module _ (b : is_broadcast s ≡ true) where
    six : type_of s ≡ 6
    six = eqb-true (type_of s) 6 b

    pub not_direct : is_direct s ≡ false
    not_direct = rw six

    pub not-cleanup : is_cleanup s ≡ false
    not-cleanup = rw six

    pub not-astray : (a : Address) → is_astray s a ≡ false
    not-astray a = rw six

    pub read_alike : (a c : Address) → read_of s a ≡ read_of s c
    unfolding read_of
    read_alike a c = rw (not-astray a, not-astray c)

    pub not-summed : is_unheard s ≡ false → is_sum_wrong s ≡ false
    not-summed u = go (is_extended s) (neither (not (is_direct s || is_cleanup s || is_broadcast s)) (is_extended s && not (is_direct s)) u).1
      where
        go : (e : Bool) → e && not (is_direct s) ≡ false → e && not (is_exempt s) && not (is_sum_right s) ≡ false
        go false p = refl
        go true p = clash (not-false (is_direct s) p) not_direct

  -- what is heard and is no broadcast is direct or a cleanup
  pub some_kind : is_unheard s ≡ false → is_broadcast s ≡ false → is_direct s ≡ false → is_cleanup s ≡ true
  some_kind u b d = go (is_cleanup s) refl
    where
      heard : is_direct s || is_cleanup s || is_broadcast s ≡ true
      heard = not-false (is_direct s || is_cleanup s || is_broadcast s) (neither (not (is_direct s || is_cleanup s || is_broadcast s)) (is_extended s && not (is_direct s)) u).0

      go : (c : Bool) → is_cleanup s ≡ c → is_cleanup s ≡ true
      go true q = q
      go false q = clash heard (rw (d, q, b))

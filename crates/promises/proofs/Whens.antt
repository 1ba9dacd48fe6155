-- When 2, 1, 3 and 4 apply, by the tests of bytes that decide it.
use Prim.Native.Nat.{ℕ, ◌%◌, ◌≤◌}
use mathlib.Core.Path.{◌≡◌, refl, sym, ◌∙◌}
use mathlib.Core.Bool.{Bool, true, false, not, ◌&&◌, ◌||◌}
use mathlib.Core.List.{List}
use mathlib.Core.Logic.{◌⊎◌, inl, inr}
use native.Mathlib.Omega.{arith}
use lib.Dec.{eqb, leb}
use lib.ListN.{length}
use borrow.Author.Tests.{leb-true, leb-false, eq-eqb, eqb-true, eqb-false, not-true}
use Rattle.basis.specs.Choice.{choose}
use Rattle.basis.specs.Numbers.{within}
use Rattle.basis.proofs.Tests.{clash, both, neither}
use Rattle.wire.specs.Bytes.{to_of, is_extended, is_whole, equals}
use Rattle.wire.specs.Kinds.{type_of, is_direct, is_cleanup, is_broadcast, is_unheard, is_astray, is_foreign}
use Rattle.wire.specs.Checksum.{is_sum_wrong}
use Rattle.wire.specs.Reading.{well_formed}
use Rattle.wire.proofs.Whole.{by_length, nine}
use Rattle.links.specs.Record.{is_fit}
use Rattle.module.specs.declared.state.Module.{Module}
use Rattle.promises.specs.Numbers.{When2, empty, too_long, no-multiple, When1, other_length, short-but-set, long-but-clear}
use Rattle.promises.specs.Numbers.{When3, other-type, long-not-direct, direct-astray, cleanup-astray, When4, Sound}

-- a test that tells whether W
pub holds : {W : Type 0} (b : Bool) → (b ≡ false → W) → ¬ W → b ≡ true
holds true f h = refl
holds false f h = absurd (h (f refl))

fails : {W : Type 0} (b : Bool) → (b ≡ true → W) → ¬ W → b ≡ false
fails true f h = absurd (h (f refl))
fails false f h = refl

one_of : (a b : Bool) → a || b ≡ true → (a ≡ true) ⊎ (b ≡ true)
one_of true b e = inl refl
one_of false b e = inr e

-- a message is of one type
pub apart : {A : Type 0} (s : List ℕ) (a b : ℕ) → eqb a b ≡ false → eqb (type_of s) a ≡ true → eqb (type_of s) b ≡ true → A
apart s a b differ p q = clash (eq-eqb a b (sym (eqb-true (type_of s) a p) ∙ eqb-true (type_of s) b q)) differ

-- 2
module _ (l : List ℕ) where
  unfit : is_fit l ≡ false → When2 l
  unfit = go (leb 1 (length l)) (leb (length l) 2048) (eqb (length l % 8) 0) refl refl refl
    where
      go : (a b c : Bool) → leb 1 (length l) ≡ a → leb (length l) 2048 ≡ b → eqb (length l % 8) 0 ≡ c → a && b && c ≡ false → When2 l
      go false b c p q r e = empty (omega (arith, leb-false 1 (length l) p))
      go true false c p q r e = too_long (leb-false (length l) 2048 q)
      go true true false p q r e = no-multiple (eqb-false (length l % 8) 0 r)
      go true true true p q r e = clash refl e

  not_2 : is_fit l ≡ true → ¬ When2 l
  not_2 h = go (leb-true 1 (length l) ends.0) (leb-true (length l) 2048 ends.1) (eqb-true (length l % 8) 0 parts.1)
    where
      parts : (within 1 2048 (length l) ≡ true) × (eqb (length l % 8) 0 ≡ true)
      parts = both (within 1 2048 (length l)) _ h

      ends : (leb 1 (length l) ≡ true) × (leb (length l) 2048 ≡ true)
      ends = both (leb 1 (length l)) _ parts.0

      go : 1 ≤ length l → length l ≤ 2048 → length l % 8 ≡ 0 → ¬ When2 l
      go a b c (empty e) = omega arith
      go a b c (too_long e) = omega arith
      go a b c (no-multiple n) = n c

-- 1
module _ (s : List ℕ) where
  unwhole : is_whole s ≡ false → When1 s
  unfolding choose
  unwhole h = go (is_extended s) refl (eqb (length s) 9) refl (eqb (length s) 23) refl (eqb-false (length s) _ h)
    where
      go : (x : Bool) → is_extended s ≡ x → (a : Bool) → eqb (length s) 9 ≡ a → (b : Bool) → eqb (length s) 23 ≡ b → ¬ (length s ≡ choose x 23 9) → When1 s
      go true x true a b c n = short-but-set (eqb-true (length s) 9 a) x
      go true x false a b c n = other_length (eqb-false (length s) 9 a) n
      go false x a b true c n = long-but-clear (eqb-true (length s) 23 c) x
      go false x a b false c n = other_length n (eqb-false (length s) 23 c)

  not_1 : is_whole s ≡ true → ¬ When1 s
  not_1 h (other_length a b) = a (nine s h b)
  not_1 h (short-but-set e x) = clash x (by_length s h ∙ rw e)
  not_1 h (long-but-clear e x) = clash (by_length s h ∙ rw e) x

-- 3
module _ (m : Module) (s : List ℕ) where
  abbrev ourselves : Bool
  ourselves = equals (to_of s) m.identity.address

  foreign : is_foreign s m.identity.address ≡ true → When3 m s
  foreign h = go (one_of (is_unheard s) (is_astray s m.identity.address) h)
    where
      unheard : (not (is_direct s || is_cleanup s || is_broadcast s) ≡ true) ⊎ (is_extended s && not (is_direct s) ≡ true) → When3 m s
      unheard (inl e) =
          let p = neither (is_direct s || is_cleanup s) (is_broadcast s) (not-true _ e) in
          let q = neither (is_direct s) (is_cleanup s) p.0 in
          other-type q.0 q.1 p.1
      unheard (inr e) = let p = both (is_extended s) (not (is_direct s)) e in long-not-direct p.0 (not-true (is_direct s) p.1)

      astray : (is_direct s ≡ true) ⊎ (is_cleanup s ≡ true) → ourselves ≡ false → When3 m s
      astray (inl d) e = direct-astray d e
      astray (inr c) e = cleanup-astray c e

      go : (is_unheard s ≡ true) ⊎ (is_astray s m.identity.address ≡ true) → When3 m s
      go (inl e) = unheard (one_of (not (is_direct s || is_cleanup s || is_broadcast s)) _ e)
      go (inr e) = let p = both (is_direct s || is_cleanup s) (not ourselves) e in astray (one_of (is_direct s) (is_cleanup s) p.0) (not-true ourselves p.1)

  not_3 : is_foreign s m.identity.address ≡ false → ¬ When3 m s
  not_3 h = go unheard.0 unheard.1 parts.1
    where
      parts : (is_unheard s ≡ false) × (is_astray s m.identity.address ≡ false)
      parts = neither (is_unheard s) _ h

      unheard : (not (is_direct s || is_cleanup s || is_broadcast s) ≡ false) × (is_extended s && not (is_direct s) ≡ false)
      unheard = neither (not (is_direct s || is_cleanup s || is_broadcast s)) _ parts.0

      go : not (is_direct s || is_cleanup s || is_broadcast s) ≡ false → is_extended s && not (is_direct s) ≡ false
          → (is_direct s || is_cleanup s) && not ourselves ≡ false → ¬ When3 m s
      go a b c (other-type p q r) = clash (rw (p, q, r)) a
      go a b c (long-not-direct p q) = clash (rw (p, q)) b
      go a b c (direct-astray p q) = clash (rw (p, q)) c
      go a b c (cleanup-astray p q) = clash (rw (eqb-true (type_of s) 2 p, q)) c

-- the tests, where they apply and where not
module _ (m : Module) (l s : List ℕ) where
  pub is_fit_lem : ¬ When2 l → is_fit l ≡ true
  is_fit_lem h = holds (is_fit l) (unfit l) h

  pub is_whole_lem : ¬ When1 s → is_whole s ≡ true
  is_whole_lem h = holds (is_whole s) (unwhole s) h

  pub is_ours : ¬ When3 m s → is_foreign s m.identity.address ≡ false
  is_ours h = fails (is_foreign s m.identity.address) (foreign m s) h

  pub is_unfit : When2 l → is_fit l ≡ false
  is_unfit h = fails (is_fit l) (not_2 l) (λ n. n h)

  pub is_unwhole : When1 s → is_whole s ≡ false
  is_unwhole h = fails (is_whole s) (not_1 s) (λ n. n h)

  pub is_foreign_lem : When3 m s → is_foreign s m.identity.address ≡ true
  is_foreign_lem h = holds (is_foreign s m.identity.address) (not_3 m s) (λ n. n h)

  pub fit : Sound m l s → is_fit l ≡ true
  fit h = is_fit_lem h.fit

  pub well_formed_lem : Sound m l s → well_formed s m.identity.address ≡ true
  well_formed_lem h = rw (is_whole_lem h.whole, is_ours h.ours, fails {W = When4 s} (is_sum_wrong s) (λ e. e) h.right)

  -- where a message stands in the order: refused by 2, 1, 3 or 4, or of one of three types
  pub data Standing : Type 0 where
    at-2 : When2 l → Standing
    at_1 : ¬ When2 l → When1 s → Standing
    at-3 : ¬ When2 l → ¬ When1 s → When3 m s → Standing
    at-4 : ¬ When2 l → ¬ When1 s → ¬ When3 m s → When4 s → Standing
    as_direct : Sound m l s → is_direct s ≡ true → Standing
    as_cleanup : Sound m l s → is_cleanup s ≡ true → Standing
    as-broadcast : Sound m l s → is_broadcast s ≡ true → Standing

  by_type : Sound m l s → Standing
  by_type h = go (is_direct s) refl (is_cleanup s) refl (is_broadcast s) refl
    where
      go : (a : Bool) → is_direct s ≡ a → (b : Bool) → is_cleanup s ≡ b → (c : Bool) → is_broadcast s ≡ c → Standing
      go true d b _ c _ = as_direct h d
      go false _ true d c _ = as_cleanup h d
      go false _ false _ true d = as-broadcast h d
      go false p false q false r = absurd (h.ours (other-type p q r))

  pub standing : Standing
  standing = go (is_fit l) refl (is_whole s) refl (is_foreign s m.identity.address) refl (is_sum_wrong s) refl
    where
      go : (a : Bool) → is_fit l ≡ a → (b : Bool) → is_whole s ≡ b → (c : Bool) → is_foreign s m.identity.address ≡ c
          → (d : Bool) → is_sum_wrong s ≡ d → Standing
      go false f b w c o d r = at-2 (unfit l f)
      go true f false w c o d r = at_1 (not_2 l f) (unwhole s w)
      go true f true w true o d r = at-3 (not_2 l f) (not_1 s w) (foreign m s o)
      go true f true w false o true r = at-4 (not_2 l f) (not_1 s w) (not_3 m s o) r
      go true f true w false o false r = by_type (record { fit = not_2 l f; whole = not_1 s w; ours = not_3 m s o; right = λ e. clash e r })

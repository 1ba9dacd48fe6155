-- What a search along the addresses finds.
use Prim.Native.Nat.{ℕ, suc, ◌+◌, ◌≤◌, ◌<◌}
use mathlib.Core.Path.{◌≡◌, refl, sym, ◌∙◌, ap}
use mathlib.Core.Bool.{Bool, true, false}
use mathlib.Core.List.{List, [], ◌∷◌}
use native.Mathlib.Omega.{arith}
use lib.Dec.{ltb}
use lib.ListN.{length, take}
use lib.Seq.{length-take-le, get_or-take}
use borrow.Author.Tests.{ltb-true}
use Rattle.std.specs.Prelude.{None, Some, cond, is_some, position}
use Rattle.std.specs.List.{position_or_len}
use Rattle.std.proofs.lemmas.Option.{cond_some, none-some}
use Rattle.basis.specs.First.{first}
use Rattle.basis.proofs.First.{none, here, later, shifted}
use Rattle.wire.specs.declared.address.Address.{Address}
use Rattle.wire.specs.Bytes.{equals, no_name}
use Rattle.row.specs.Row.{seat_named, is_doubled}
use Rattle.row.specs.Round.{name_in}
use Rattle.row.proofs.Named.{named_agrees, doubled_agrees}

-- the first with an address, counted along the list
first_there : (names : List Address) (a : Address) → position_or_len (λ b. equals a b) names ≡ seat_named (name_in names) (length names) a
first_there [] a = sym (none (λ (i : ℕ). equals a (name_in [] i)) 0)
first_there (x ∷ names) a = go (equals a x) refl (first_there names a)
  where
    P : ℕ → Bool
    P i = equals a (name_in (x ∷ names) i)

    Q : ℕ → Bool
    Q i = equals a (name_in names i)

    behind : (j : ℕ) → P (1 + j) ≡ Q j
    behind j = let q : 1 + j ≡ suc j = omega arith in ap P q

    go : (b : Bool) → equals a x ≡ b → position_or_len (λ b. equals a b) names ≡ first Q (length names) → position_or_len (λ b. equals a b) (x ∷ names) ≡ first P (suc (length names))
    go true e ih = rw e (sym (here P (suc (length names)) 0 (omega arith) e))
    go false e ih =
        rw e
        (ap (λ (k : ℕ). 1 + k) ih
        ∙ sym (shifted P Q 1 behind (length names) 0)
        ∙ sym (later P (suc (length names)) 0 (omega arith) e))

-- among the first n of them
module _ (names xs : List Address) (n : ℕ) (h : n ≤ length names) (e : xs ≡ take n names) where
  many : length xs ≡ n
  many = ap length e ∙ length-take-le n names h

  agree : (j : ℕ) → j < n → name_in xs j ≡ name_in names j
  agree j g = ap (λ (z : List Address). name_in z j) e ∙ get_or-take n names j no_name g

  pub doubled_there : is_doubled (name_in xs) (length xs) ≡ is_doubled (name_in names) n
  doubled_there = ap (is_doubled (name_in xs)) many ∙ doubled_agrees (name_in xs) (name_in names) n agree

  module _ (a : Address) where
    abbrev place : ℕ
    place = seat_named (name_in names) n a

    its-place : position_or_len (λ b. equals a b) xs ≡ seat_named (name_in names) n a
    its-place = first_there xs a ∙ ap (λ (k : ℕ). seat_named (name_in xs) k a) many ∙ named_agrees (name_in xs) (name_in names) n a agree

    found : position (λ b. equals a b) xs ≡ cond (ltb (seat_named (name_in names) n a) n) (Some (seat_named (name_in names) n a)) None
    found = λ j. cond (ltb (its-place j) (many j)) (Some (its-place j)) None

    pub record Found (k : ℕ) : Type 0 where
      pub is : seat_named (name_in names) n a ≡ k
      pub inside : k < n

    pub is_found : (k : ℕ) → position (λ b. equals a b) xs ≡ Some k → Found k
    is_found k q =
        let p = cond_some (ltb place n) place k (sym found ∙ q) in
        record { is = p.1; inside = omega (arith, ltb-true place n p.0, p.1) }

    pub not_found : position (λ b. equals a b) xs ≡ None → ltb (seat_named (name_in names) n a) n ≡ false
    not_found q = go (ltb place n) (sym q ∙ found)
      where
        go : (b : Bool) → None ≡ cond b (Some place) None → b ≡ false
        go true p = absurd (none-some place p)
        go false p = refl

    pub whether : is_some (position (λ b. equals a b) xs) ≡ ltb (seat_named (name_in names) n a) n
    whether = ap is_some found ∙ go (ltb place n)
      where
        go : (b : Bool) → is_some (cond b (Some place) None) ≡ b
        go true = refl
        go false = refl

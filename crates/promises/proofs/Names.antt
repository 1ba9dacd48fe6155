-- What Data 3 and 4 name is what the table says.
use Prim.Native.Nat.{ℕ, ◌+◌, ◌*◌, ◌<◌}
use mathlib.Core.Path.{◌≡◌, refl, subst}
use mathlib.Core.Bool.{Bool, true, false}
use mathlib.Core.List.{List}
use native.Mathlib.Omega.{arith}
use lib.Dec.{eqb}
use borrow.Author.Tests.{eqb-true, eqb-false}
use Rattle.std.specs.Prelude.{Some}
use Rattle.wire.specs.Bytes.{data_at}
use Rattle.links.specs.Record.{records}
use Rattle.links.specs.Name.{meant, place_of}
use Rattle.links.proofs.Named.{legal, named, itself, zero_means}
use Rattle.promises.specs.Legal.{Names, by_place, by_zero}

module _ (l s : List ℕ) where
  abbrev pub address : ℕ
  address = data_at s 3 * 256 + data_at s 4

  pub is_there : (k : ℕ) → Names s l k → k < records l
  is_there _ (by_place k h e) = h
  is_there _ (by_zero h a b) = h

  pub names_record : (k : ℕ) → Names s l k → place_of (records l) address ≡ Some k
  names_record _ (by_place k h e) = legal (records l) address k h (rw (itself address (omega arith)) e)
  names_record _ (by_zero h a b) = rw (a, b) (legal (records l) 0x0000 0 h (rw zero_means))

  pub is_named : (k : ℕ) → place_of (records l) address ≡ Some k → Names s l k
  is_named k e = go (eqb address 0x0000) refl (named (records l) address k e)
    where
      go : (b : Bool) → eqb address 0x0000 ≡ b → (k < records l) × (meant address + 8 * k ≡ 0x0fff) → Names s l k
      go true z p =
          let none : address ≡ 0x0000 = eqb-true address 0x0000 z in
          let own : 0x0fff + 8 * k ≡ 0x0fff = rw (none, zero_means) at p.1 in
          subst (Names s l) (omega arith) (by_zero (omega (arith, p.0)) (omega arith) (omega arith))
      go false z p = by_place k p.0 (rw (itself address (eqb-false address 0x0000 z)) at p.1)

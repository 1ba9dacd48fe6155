-- What a message is heard as: it says whom it is for, and a well-formed one has a kind.
use Prim.Native.Nat.{ℕ}
use mathlib.Core.Path.{◌≡◌, refl}
use mathlib.Core.Bool.{true, false, not, ◌&&◌}
use mathlib.Core.List.{List}
use borrow.Author.Tests.{not-true}
use Rattle.std.specs.Prelude.{Ok}
use Rattle.basis.specs.Choice.{choose}
use Rattle.basis.proofs.Choice.{either}
use Rattle.basis.proofs.Tests.{both}
use Rattle.wire.specs.declared.address.Address.{Address}
use Rattle.wire.specs.declared.kind.Message.{Message}
use Rattle.wire.specs.Bytes.{named_in, data_of, is_whole}
use Rattle.wire.specs.Kinds.{is_foreign, kind_of}
use Rattle.wire.specs.Checksum.{is_sum_wrong}
use Rattle.wire.specs.Reading.{well_formed, read_of}

-- whoever reads it
pub says_whom : (s : List ℕ) (own : Address) → (read_of s own).to ≡ named_in s
unfolding read_of
says_whom s own =
    let P : Message → Type 0 = λ m. m.to ≡ named_in s in
    either P _ (either P _ refl (either P _ refl refl)) refl

module _ (s : List ℕ) (own : Address) (w : well_formed s own ≡ true) where
  pub parts : (is_whole s ≡ true) × (is_foreign s own ≡ false) × (is_sum_wrong s ≡ false)
  parts =
      let a = both (is_whole s && not (is_foreign s own)) (not (is_sum_wrong s)) w in
      let b = both (is_whole s) (not (is_foreign s own)) a.0 in
      (b.0, not-true _ b.1, not-true _ a.1)

  -- its kind, with its data bytes beside it
  pub heard : read_of s own ≡ record { to = named_in s; reading = Ok (kind_of s); «data» = data_of s }
  unfolding read_of choose
  heard = rw (parts.0, parts.1, parts.2)

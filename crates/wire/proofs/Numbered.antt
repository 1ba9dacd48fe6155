-- A reading has the number of the refusal that applies first.
use Prim.Native.Nat.{ℕ}
use mathlib.Core.Path.{◌≡◌, refl, ◌∙◌, ap}
use mathlib.Core.List.{List}
use Rattle.basis.proofs.Choice.{either, beside}
use Rattle.wire.specs.declared.address.Address.{Address}
use Rattle.wire.specs.declared.kind.MessageKind.{MessageKind}
use Rattle.wire.specs.declared.kind.Message.{Message}
use Rattle.wire.specs.Bytes.{is_whole}
use Rattle.wire.specs.Kinds.{is_direct, is_cleanup, is_foreign, kind_of}
use Rattle.wire.specs.Checksum.{is_sum_wrong}
use Rattle.wire.specs.Reading.{read_of, refusal_of, kind_number, reading_number, ReadPromise}

module _ (s : List ℕ) (own : Address) where
  -- a kind that we hear is no refusal
  heard : kind_number (kind_of s) ≡ 0
  unfolding kind_of
  heard =
      let none : MessageKind → Type 0 = λ kind. kind_number kind ≡ 0 in
      either none (is_direct s) refl (either none (is_cleanup s) refl refl)

  numbered : reading_number (read_of s own).reading ≡ refusal_of s own
  unfolding read_of
  numbered =
      let same : Message → ℕ → Type 0 = λ m n. reading_number m.reading ≡ n in
      beside same (is_whole s) (beside same (is_foreign s own) refl (beside same (is_sum_wrong s) refl heard)) refl

  pub promised : (r : Message) → r ≡ read_of s own → ReadPromise s own r
  promised r e = record { message = e; number = ap (λ (m : Message). reading_number m.reading) e ∙ numbered }

-- What a write leaves: every other record, the length, and who is linked.
use Prim.Native.Nat.{ℕ, ◌+◌, ◌-◌, ◌≤◌, ◌<◌}
use mathlib.Core.Path.{◌≡◌, refl, sym, ◌∙◌, ap, transport}
use mathlib.Core.Bool.{Bool, true, false, ◌&&◌}
use mathlib.Core.Logic.{◌↔◌, ◌⊎◌, inl, inr}
use mathlib.Core.List.{List}
use native.Mathlib.Nat.{zero-add}
use native.Mathlib.Omega.{arith}
use lib.Dec.{eqb, ltb, leb}
use lib.ListN.{length, get_or, drop, length-append, length-drop, get_or-append}
use lib.Seq.{get_or-append-add, get_or-drop}
use borrow.Author.Tests.{eqb-true, eqb-false, ltb-true, ltb-false, leb-true, lt-ltb, le-leb, lt-leb}
use Rattle.basis.specs.Choice.{choose}
use Rattle.basis.specs.Laid.{laid}
use Rattle.basis.proofs.Choice.{by}
use Rattle.basis.proofs.Tests.{both}
use Rattle.basis.proofs.Spelled.{spelled, at_place, alike}
use Rattle.basis.proofs.Over.{length_over, before, inside, behind}
use Rattle.wire.specs.declared.address.Address.{Address}
use Rattle.links.specs.Record.{records, start_of, record_at}
use Rattle.links.specs.Live.{LinkedOf, Linked}
use Rattle.links.specs.LiveList.{live_list, live_list_of}
use Rattle.links.specs.Write.{written, written_if_there, after_write}
use Rattle.links.proofs.Standing.{stands, apart, as_long}
use Rattle.links.proofs.Alike.{linked_alike, list_alike}

-- a write of more than eight bytes is none, and one of fewer to a record that is there is as it says
pub too_many : (l : List ℕ) (k : ℕ) (bytes : List ℕ) → 8 < length bytes → written_if_there l k bytes ≡ l
unfolding written_if_there choose
too_many l k bytes h = rw (lt-leb (length bytes) 8 h) (go (ltb k (records l)))
  where
    go : (t : Bool) → choose (t && false) (written l k bytes) l ≡ l
    go true = refl
    go false = refl

pub legal : (l : List ℕ) (k : ℕ) (bytes : List ℕ) → k < records l → length bytes ≤ 8 → written_if_there l k bytes ≡ written l k bytes
unfolding written_if_there choose
legal l k bytes h g = rw (lt-ltb k (records l) h, le-leb (length bytes) 8 g)

module _ (l : List ℕ) (k : ℕ) (bytes : List ℕ) (few : length bytes ≤ 8) (there : k < records l) where
  room : start_of l k + length bytes ≤ length l
  room = omega (arith, stands l k there)

  pub length-written : length (written l k bytes) ≡ length l
  length-written = length_over (start_of l k) l bytes room

  -- so every record stands where it stood
  pub places_stay : (i : ℕ) → start_of (written l k bytes) i ≡ start_of l i
  places_stay i = as_long (written l k bytes) l i length-written

  -- byte j of another record, and of the record itself
  elsewhere : (i j : ℕ) → i < records l → (i ≡ k → ⊥) → j < 8 → get_or (written l k bytes) (start_of l i + j) 0 ≡ get_or l (start_of l i + j) 0
  elsewhere i j h other g = go (apart l i k other h there)
    where
      go : (start_of l i + 8 ≤ start_of l k) ⊎ (start_of l k + 8 ≤ start_of l i) → get_or (written l k bytes) (start_of l i + j) 0 ≡ get_or l (start_of l i + j) 0
      go (inl p) = before (start_of l k) l bytes room (start_of l i + j) (omega arith)
      go (inr p) =
          let e : start_of l k + (start_of l i + j - start_of l k) ≡ start_of l i + j = omega arith in
          rw e at (behind (start_of l k) l bytes room (start_of l i + j - start_of l k) (omega arith))

  here : (j : ℕ) → j < 8 → get_or (written l k bytes) (start_of l k + j) 0 ≡ get_or (laid bytes (record_at l k)) j 0
  here j h = go (ltb j (length bytes)) refl
    where
      go : (t : Bool) → ltb j (length bytes) ≡ t → get_or (written l k bytes) (start_of l k + j) 0 ≡ get_or (laid bytes (record_at l k)) j 0
      go true q = inside (start_of l k) l bytes room j (ltb-true j (length bytes) q) ∙ sym (get_or-append bytes _ 0 j (ltb-true j (length bytes) q))
      go false q =
          let e : length bytes + (j - length bytes) ≡ j = omega (arith, ltb-false j (length bytes) q) in
          behind (start_of l k) l bytes room j (ltb-false j (length bytes) q)
          ∙ sym (at_place 8 (start_of l k) l j h)
          ∙ ap (λ (z : ℕ). get_or (record_at l k) z 0) (sym e)
          ∙ sym (get_or-drop (length bytes) (record_at l k) (j - length bytes) 0)
          ∙ sym (get_or-append-add bytes (drop (length bytes) (record_at l k)) (j - length bytes) 0)
          ∙ ap (λ (z : ℕ). get_or (laid bytes (record_at l k)) z 0) e

  -- a byte of the memory written, by where its record stood
  stood : (i j : ℕ) → get_or (written l k bytes) (start_of (written l k bytes) i + j) 0 ≡ get_or (written l k bytes) (start_of l i + j) 0
  stood i j = ap (λ (x : ℕ). get_or (written l k bytes) (x + j) 0) (places_stay i)

  -- no other record changes
  pub others : (i : ℕ) → i < records l → (i ≡ k → ⊥) → record_at (written l k bytes) i ≡ record_at l i
  others i h other = alike 8 (start_of (written l k bytes) i) (start_of l i) (written l k bytes) l (λ j g. stood i j ∙ elsewhere i j h other g)

  -- the record itself has the bytes over its first ones
  pub itself : record_at (written l k bytes) k ≡ laid bytes (record_at l k)
  itself =
      let after : List ℕ = laid bytes (record_at l k) in
      let long : length after ≡ 8 = length-append bytes (drop (length bytes) (record_at l k)) ∙ simp length-drop (omega arith) in
      alike 8 (start_of (written l k bytes) k) 0 (written l k bytes) after (λ j h. stood k j ∙ here j h ∙ ap (λ (x : ℕ). get_or after x 0) (sym (zero-add j)))
      ∙ spelled 8 after long

  -- so every record is known after the write, and with the records who is linked and which are live
  pub after_write_lem : (j : ℕ) → j < records l → record_at (written l k bytes) j ≡ after_write l k bytes j
  unfolding after_write choose
  after_write_lem j h = go (eqb j k) refl
    where
      go : (t : Bool) → eqb j k ≡ t → record_at (written l k bytes) j ≡ choose t (laid bytes (record_at l k)) (record_at l j)
      go true q = rw (eqb-true j k q) itself
      go false q = others j h (eqb-false j k q)

  pub linked_after : (a : Address) → Linked (written l k bytes) a ↔ LinkedOf (records l) (after_write l k bytes) a
  linked_after a =
      let e : Linked (written l k bytes) a ≡ LinkedOf (records l) (record_at (written l k bytes)) a = rw length-written in
      (λ h. linked_alike (records l) _ _ a after_write_lem (transport e h), λ h. transport (sym e) (linked_alike (records l) _ _ a (λ j g. sym (after_write_lem j g)) h))

  pub live_after : live_list (written l k bytes) ≡ live_list_of (records l) (after_write l k bytes)
  live_after = rw length-written (list_alike (records l) _ _ after_write_lem (records l) 0 (omega arith))

-- a write, made or not, keeps the length
pub length_kept : (l : List ℕ) (k : ℕ) (bytes : List ℕ) → length (written_if_there l k bytes) ≡ length l
unfolding written_if_there
length_kept l k bytes =
    by (λ (x : List ℕ). length x ≡ length l) (ltb k (records l) && leb (length bytes) 8)
    (λ q.
    let p = both (ltb k (records l)) (leb (length bytes) 8) q in
    length-written l k bytes (leb-true (length bytes) 8 p.1) (ltb-true k (records l) p.0))
    (λ q. refl)

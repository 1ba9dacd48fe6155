-- What lasts: who the module is and of what kind, and what a write leaves ("The module we simulate", "Link memory").
use Rattle.std.specs.Prelude.{ℕ, ◌≤◌, ◌<◌, ◌≡◌, List, ◌↔◌, length}
use Rattle.basis.specs.Laid.{laid}
use Rattle.wire.specs.declared.address.Address.{Address}
use Rattle.links.specs.Record.{records, start_of, record_at}
use Rattle.links.specs.Live.{LinkedOf, Linked}
use Rattle.links.specs.LiveList.{live_list_of, live_list}
use Rattle.links.specs.Write.{written, after_write}
use Rattle.module.specs.declared.state.Module.{Module}
use Rattle.module.specs.Module.{kind_of}
use Rattle.device.specs.Step.{step_of}

-- no message alters who the module is: address, category, subcategory, firmware and revision stay
abbrev pub SameIdentity : Type 0
SameIdentity = (m : Module) (l s room : List ℕ) → (step_of m l s room).next.identity ≡ m.identity

-- nor of what kind it is
abbrev pub SameKind : Type 0
SameKind = (m : Module) (l s room : List ℕ) → kind_of (step_of m l s room).next.load ≡ kind_of m.load

-- eight bytes or fewer, over the first bytes of a record that is there
pub record WriteLeaves (l : List ℕ) (k : ℕ) (bytes : List ℕ) : Type 0 where
  -- the memory is as long as it was
  pub length-stays : length (written l k bytes) ≡ length l
  -- every record stands where it stood
  pub places_stay : (i : ℕ) → start_of (written l k bytes) i ≡ start_of l i
  -- every other record stays
  pub others-stay : (i : ℕ) → i < records l → ¬ (i ≡ k) → record_at (written l k bytes) i ≡ record_at l i
  -- and so does the rest of this one
  pub rest-stays : record_at (written l k bytes) k ≡ laid bytes (record_at l k)
  -- who is linked then, and which records are live, goes by the records as they are then
  pub linked-then : (a : Address) → Linked (written l k bytes) a ↔ LinkedOf (records l) (after_write l k bytes) a
  pub live_then : live_list (written l k bytes) ≡ live_list_of (records l) (after_write l k bytes)

abbrev pub WritesLeave : Type 0
WritesLeave = (l : List ℕ) (k : ℕ) (bytes : List ℕ) → length bytes ≤ 8 → k < records l → WriteLeaves l k bytes

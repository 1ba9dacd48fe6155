-- The first seat whose address is taken, of those that are left, is the first of all. A seat whose low byte is not marked is not taken.
use Prim.Native.Nat.{ℕ, ◌<◌, ◌-◌}
use mathlib.Core.Path.{◌≡◌}
use mathlib.Core.Bool.{Bool, true, false}
use mathlib.Core.List.{List}
use lib.ListN.{length, get_or}
use Rattle.basis.specs.First.{first, first_from}
use Rattle.wire.specs.declared.address.Address.{Address}
use Rattle.row.specs.Row.{is_taken}
use Rattle.row.specs.Round.{name_in}
use Rattle.row.proofs.names.is_doubled.Given as goal

-- The first seat whose address is taken, of those that are left, is the first of all. A seat whose low byte is not marked is not taken.
-- the low byte of every seat before i is marked
abbrev pub Marked : (ℕ → Address) → List Bool → ℕ → Type 0
Marked name met i = (j : ℕ) → j < i → get_or met (name j).low false ≡ true

abbrev pub invariant-loop-i : goal.invariant-loop-i
invariant-loop-i l =
    (first_from (is_taken (name_in l.names)) (length l.names - l.i) l.i ≡ first (is_taken (name_in l.names)) (length l.names))
    × (length l.met ≡ 256)
    × Marked (name_in l.names) l.met l.i

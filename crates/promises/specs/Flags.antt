-- The flag rule, bit by bit ("Direct commands, extended").
use Rattle.std.specs.Prelude.{ℕ, ◌+◌, ◌*◌, ◌≤◌, ◌<◌, ◌≡◌, List, length}
use Rattle.basis.specs.Flags.{SetIn, ClearIn}
use Rattle.wire.specs.Bytes.{command2_of}
use Rattle.module.specs.declared.state.Module.{Module}
use Rattle.device.specs.Step.{step_of}
use Rattle.wire.specs.Asked.{Long}
use Rattle.promises.specs.Legal.{FromLinked}

-- of the eight flags, which are a byte, the bit named is set, and every other one stays
abbrev pub SetsFlag : Type 0
SetsFlag =
    (m : Module) (l s room : List ℕ) (b : ℕ) → FromLinked m l s → Long s 0x20 → b ≤ 7 → command2_of s ≡ 2 * b →
    m.flags < 256 → 9 ≤ length room →
    SetIn 8 b m.flags (step_of m l s room).next.flags

-- the bit named is clear
abbrev pub ClearsFlag : Type 0
ClearsFlag =
    (m : Module) (l s room : List ℕ) (b : ℕ) → FromLinked m l s → Long s 0x20 → b ≤ 7 → command2_of s ≡ 2 * b + 1 →
    m.flags < 256 → 9 ≤ length room →
    ClearIn 8 b m.flags (step_of m l s room).next.flags

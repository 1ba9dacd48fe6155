-- The flag rule, bit by bit, of a command that is taken.
use mathlib.Core.Path.{sym, ap, subst}
use native.Mathlib.Omega.{arith}
use Rattle.basis.specs.Flags.{SetIn, ClearIn}
use Rattle.basis.proofs.Bits.{sets, clears}
use Rattle.module.specs.declared.state.Module.{Module}
use Rattle.promises.specs.Legal.{set-flag, clear-flag}
use Rattle.promises.specs.LegalAny.{shared}
use Rattle.promises.specs.Flags.{SetsFlag, ClearsFlag}
use Rattle.promises.proofs.Legal.{taken}

pub sets_flag : SetsFlag
sets_flag m l s room b h x few code bits enough =
    let done = taken m l s room _ h enough (shared (set-flag x b few code)) in
    subst (SetIn 8 b m.flags) (sym (ap (λ (n : Module). n.flags) done.next)) (sets 8 b m.flags (omega arith) bits)

pub clears_flag : ClearsFlag
clears_flag m l s room b h x few code bits enough =
    let done = taken m l s room _ h enough (shared (clear-flag x b few code)) in
    subst (ClearIn 8 b m.flags) (sym (ap (λ (n : Module). n.flags) done.next)) (clears 8 b m.flags (omega arith) bits)

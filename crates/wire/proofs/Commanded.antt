-- What Command 1 tells a group ("Groups").
use Prim.Native.Nat.{ℕ, ◌≤◌}
use mathlib.Core.Path.{◌≡◌}
use mathlib.Core.Bool.{true}
use lib.Dec.{leb}
use borrow.Author.Tests.{leb-true, leb-false, le-leb}
use Rattle.basis.specs.Numbers.{within}
use Rattle.basis.proofs.Tests.{both, clash}
use Rattle.basis.proofs.Choice.{by}
use Rattle.wire.specs.declared.command.GroupCommand.{GroupCommand}
use Rattle.wire.specs.Commands.{turn_of, group_command_of}

pub data Commanded (c : ℕ) : GroupCommand → Type 0 where
  turns-on : 0x11 ≤ c → c ≤ 0x12 → Commanded c GroupCommand.On
  turns-off : 0x13 ≤ c → c ≤ 0x14 → Commanded c GroupCommand.Off
  neither : ¬ ((0x11 ≤ c) × (c ≤ 0x14)) → Commanded c GroupCommand.Unlisted

limits : (a b x : ℕ) → within a b x ≡ true → (a ≤ x) × (x ≤ b)
limits a b x e = let p = both (leb a x) (leb x b) e in (leb-true a x p.0, leb-true x b p.1)

inside : (a b x : ℕ) → a ≤ x → x ≤ b → within a b x ≡ true
inside a b x p q = rw (le-leb a x p, le-leb x b q)

pub commanded : (c : ℕ) → Commanded c (group_command_of c)
unfolding group_command_of
commanded c = by (Commanded c) (within 0x11 0x14 c) turned (λ e. neither (λ r. clash (inside 0x11 0x14 c r.0 r.1) e))
  where
    turned : within 0x11 0x14 c ≡ true → Commanded c (turn_of c)
    turned e =
        let there = limits 0x11 0x14 c e in
        by (Commanded c) (leb c 0x12) (λ low. turns-on there.0 (leb-true c 0x12 low)) (λ high. turns-off (leb-false c 0x12 high) there.1)

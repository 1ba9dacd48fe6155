-- What request 1 says is not legal on an outlet, by the bytes of the message.
use Rattle.std.specs.Prelude.{ℕ, ◌≡◌, List}
use Rattle.wire.specs.Bytes.{command2_of, data_at}
use Rattle.wire.specs.Asked.{Short, Long, Asks}

-- what a dimmer takes and an outlet does not, and other numbers in an outlet's rows
pub data NotHere (s : List ℕ) : Type 0 where
  on-fast : Short s 0x12 → NotHere s
  off-fast : Short s 0x14 → NotHere s
  brighten : Short s 0x15 → NotHere s
  dim : Short s 0x16 → NotHere s
  instant : Short s 0x21 → NotHere s
  percent : Short s 0x39 → NotHere s
  on-at-ramp : Short s 0x2e → NotHere s
  off-at-ramp : Short s 0x2f → NotHere s
  other-status : Short s 0x19 → ¬ (command2_of s ≡ 0x00) → ¬ (command2_of s ≡ 0x01) → NotHere s
  set-ramp : Asks s 0x2e 0x05 → NotHere s
  set-on-level : Asks s 0x2e 0x06 → NotHere s
  other-on : Long s 0x11 → ¬ (data_at s 1 ≡ 0x02) → NotHere s
  other-off : Long s 0x13 → ¬ (data_at s 1 ≡ 0x02) → NotHere s

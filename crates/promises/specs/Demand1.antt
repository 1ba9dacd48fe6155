-- Demand 1: every message gets one of the numbered results, and a refusal alters nothing.
use Rattle.std.specs.Prelude.{ℕ, ◌≤◌, ◌≡◌, true, ◌||◌, List, [], eqb}
use Rattle.basis.specs.Choice.{choose}
use Rattle.basis.specs.Laid.{laid}
use Rattle.basis.specs.Numbers.{within}
use Rattle.wire.specs.Bytes.{from_of, hops_of, command1_of}
use Rattle.wire.specs.Kinds.{is_cleanup}
use Rattle.reply.specs.declared.due.ReplyType.{ReplyType}
use Rattle.reply.specs.Message.{standard}
use Rattle.results.specs.Number.{number_of}
use Rattle.module.specs.declared.state.Module.{Module}
use Rattle.device.specs.Step.{Step, step_of}

-- the stated NAK: to the sender, with Command 1 repeated
abbrev pub nak_of : Module → List ℕ → ℕ → List ℕ
nak_of m s command2 = standard m.identity.address (from_of s) (choose (is_cleanup s) ReplyType.CleanupNak ReplyType.Nak) (hops_of s) (command1_of s) command2

-- neither module nor link memory is altered
pub record Unaltered (m : Module) (l : List ℕ) (t : Step) : Type 0 where
  pub same-module : t.next ≡ m
  pub same_links : t.links ≡ l

-- these bytes are sent, and the room holds them and its old rest
pub record Sends (room bytes : List ℕ) (t : Step) : Type 0 where
  pub reply : t.reply ≡ bytes
  pub room_after : t.room ≡ laid bytes room

-- what each number means for module, link memory and room
pub data Fate (m : Module) (l s room : List ℕ) (t : Step) : Type 0 where
  carried-out : number_of t.outcome ≡ 0 → Fate m l s room t
  -- 1 to 5, and 8: nothing is sent
  silent : within 1 5 (number_of t.outcome) || eqb (number_of t.outcome) 8 ≡ true → Unaltered m l t → Sends room [] t → Fate m l s room t
  not-linked : number_of t.outcome ≡ 6 → Unaltered m l t → Sends room (nak_of m s 0xff) t → Fate m l s room t
  not_listed : number_of t.outcome ≡ 7 → Unaltered m l t → Sends room (nak_of m s 0xfb) t → Fate m l s room t

-- every message to every module, with every link memory and every room, has such a fate
abbrev pub AlwaysFated : Type 0
AlwaysFated = (m : Module) (l s room : List ℕ) → Fate m l s room (step_of m l s room)

-- and its number is one of 0 to 8
abbrev pub AlwaysNumbered : Type 0
AlwaysNumbered = (m : Module) (l s room : List ℕ) → number_of (step_of m l s room).outcome ≤ 8

-- A reply's length, and what comes of a room that is too short for it and of one that is not.
use Prim.Native.Nat.{ℕ, ◌+◌, ◌-◌, ◌*◌, ◌≤◌, ◌<◌}
use mathlib.Core.Path.{◌≡◌, sym, ◌∙◌}
use mathlib.Core.List.{List, ◌++◌}
use native.Mathlib.Omega.{arith}
use lib.ListN.{length, length-append}
use borrow.Author.Tests.{lt-ltb, le-ltb}
use Rattle.basis.specs.Choice.{choose}
use Rattle.basis.specs.Laid.{laid, laid_if_fits}
use Rattle.basis.proofs.Laid.{fits}
use Rattle.links.specs.Record.{records}
use Rattle.wire.specs.declared.address.Address.{Address}
use Rattle.reply.specs.declared.due.Head.{Head}
use Rattle.std.specs.Prelude.{Ok, Err}
use Rattle.reply.specs.Message.{head_of}
use Rattle.links.specs.Mark.{up_to_mark}
use Rattle.reply.specs.Records.{count_sent, sent_records}
use Rattle.reply.specs.Sending.{sent_of, Sending}
use Rattle.reply.proofs.Upward.{length_records}

-- an ACK and records
pub long : (own : Address) (h : Head) (data1 : ℕ) (l : List ℕ) (k count : ℕ) → length (head_of own h ++ sent_records own h.to h.hops data1 l k count) ≡ 9 + 23 * count_sent l k count
long own h data1 l k count =
    length-append (head_of own h) (sent_records own h.to h.hops data1 l k count)
    ∙ omega (arith, length_records own h.to h.hops data1 l (count_sent l k count) k)

-- no more are sent than there are
pub enough : (l : List ℕ) (k count : ℕ) → count_sent l k count ≤ records l - k
unfolding up_to_mark
enough l k count = omega arith

module _ (reply room : List ℕ) where
  pub short : length room < length reply → Sending reply room (Err (record {})) room
  unfolding sent_of laid_if_fits choose
  short h =
      let t = lt-ltb (length room) (length reply) h in
      record { answers = rw t; leaves = rw t }

  pub whole : (n : ℕ) (after : List ℕ) → length reply ≤ length room → n ≡ length reply → after ≡ laid reply room → Sending reply room (Ok n) after
  unfolding sent_of choose
  whole n after h e p = record { answers = rw (le-ltb (length room) (length reply) h, e); leaves = p ∙ sym (fits room reply h) }

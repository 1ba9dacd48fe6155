-- What a well-formed message comes to, before the sender's link is known.
use Prim.Native.Nat.{ℕ}
use mathlib.Core.Path.{◌≡◌, refl, ◌∙◌}
use mathlib.Core.Bool.{true}
use mathlib.Core.List.{List}
use borrow.Author.Tests.{eqb-true}
use Rattle.basis.specs.Choice.{choose}
use Rattle.basis.proofs.Choice.{either}
use Rattle.wire.specs.declared.kind.MessageKind.{MessageKind}
use Rattle.wire.specs.Bytes.{from_of, to_of, command1_of, request_of, data_of}
use Rattle.wire.specs.Commands.{group_command_of}
use Rattle.wire.specs.Kinds.{type_of, is_direct, is_cleanup, is_broadcast, kind_of}
use Rattle.wire.specs.Asked.{command_in}
use Rattle.wire.specs.Reading.{well_formed}
use Rattle.wire.proofs.Heard.{heard}
use Rattle.links.specs.Record.{is_fit, records}
use Rattle.links.specs.Live.{Linked}
use Rattle.links.specs.Search.{search_of}
use Rattle.module.specs.declared.state.Module.{Module}
use Rattle.module.specs.declared.deed.Deed.{Deed}
use Rattle.module.specs.Plan.{deed_plan}
use Rattle.decide.specs.Dispatch.{deed_of}
use Rattle.decide.specs.Decide.{needs_no_link, direct_wanted, direct_plan}
use Rattle.decide.specs.Ruling.{kind_ruling, ruling_by, ruling_of}
use Rattle.decide.proofs.Sender.{linked-plan}
use Rattle.device.specs.Step.{Step, step_of}

-- what it comes to where it is looked at
abbrev pub deed_in : Module → List ℕ → List ℕ → Deed
deed_in m l s = deed_of m (request_of s) (data_of s) (records l) (command_in s)

by_kind : (m : Module) (l s : List ℕ) → is_fit l ≡ true → well_formed s m.identity.address ≡ true
    → ruling_of m l s ≡ kind_ruling m l (data_of s) (kind_of s)
unfolding ruling_by choose
by_kind m l s f w = rw (f, heard s m.identity.address w)

-- by its type
module _ (m : Module) (l s : List ℕ) (f : is_fit l ≡ true) (w : well_formed s m.identity.address ≡ true) where
  pub direct_ruling : is_direct s ≡ true → ruling_of m l s ≡ kind_ruling m l (data_of s) (MessageKind.Direct (request_of s) (command_in s))
  unfolding kind_of choose
  direct_ruling d = rw (by_kind m l s f w, d)

  pub cleanup_ruling : is_cleanup s ≡ true → ruling_of m l s ≡ kind_ruling m l (data_of s) (MessageKind.Cleanup (request_of s) (group_command_of (command1_of s)))
  unfolding kind_of choose
  cleanup_ruling c = rw (by_kind m l s f w, eqb-true (type_of s) 2 c)

  pub broadcast_ruling : is_broadcast s ≡ true
      → ruling_of m l s ≡ kind_ruling m l (data_of s) (MessageKind.Broadcast (from_of s) (to_of s) (group_command_of (command1_of s)))
  unfolding kind_of choose
  broadcast_ruling b = rw (by_kind m l s f w, eqb-true (type_of s) 6 b)

-- the room has no say in the number of records read
pub read_by : (m : Module) (l s room : List ℕ) → (step_of m l s room).read ≡ (ruling_of m l s).read
read_by m l s room = either (λ (t : Step). t.read ≡ (ruling_of m l s).read) _ refl refl

module _ (m : Module) (l s : List ℕ) (f : is_fit l ≡ true) (w : well_formed s m.identity.address ≡ true) (d : is_direct s ≡ true) where
  pub ruled : (ruling_of m l s).plan
      ≡ direct_plan m (request_of s) (data_of s) (records l) (command_in s) (search_of l (direct_wanted (request_of s) (command_in s))).found
  ruled = rw (direct_ruling m l s f w d)

  -- what needs no link makes no search
  pub unread : needs_no_link (command_in s) ≡ true → (ruling_of m l s).read ≡ 0
  unfolding choose
  unread e = rw (direct_ruling m l s f w d, e)

  pub ruled_linked : Linked l (from_of s) → (ruling_of m l s).plan ≡ deed_plan m (request_of s) (deed_in m l s)
  ruled_linked h = ruled ∙ linked-plan m l (request_of s) (data_of s) (records l) (command_in s) h

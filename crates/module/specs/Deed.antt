-- What a direct command that is looked at comes to: carried out and ACKed, or not listed.
use Rattle.std.specs.Prelude.{ℕ}
use Rattle.basis.specs.Choice.{choose}
use Rattle.basis.specs.Numbers.{within}
use Rattle.module.specs.declared.change.Change.{Change}
use Rattle.module.specs.declared.deed.Ack.{Ack}
use Rattle.module.specs.declared.deed.Deed.{Deed}

-- the ACK repeats both commands
abbrev pub acked : Change → Deed
acked change = Deed.Done change Ack.Repeated

-- nothing changes, and the ACK says this
abbrev pub answered : Ack → Deed
answered ack = Deed.Done Change.Nothing ack

-- Command 2 of the ACK is a value
abbrev pub telling : ℕ → Deed
telling command2 = answered (Ack.Telling command2)

-- the ACK has the delta for its Command 1, and a value for its Command 2
abbrev pub showing : ℕ → Deed
showing command2 = answered (Ack.AfterDelta command2)

-- listed where the number is one of a to b
unfoldable pub limited : ℕ → ℕ → ℕ → Deed → Deed
limited a b x deed = choose (within a b x) deed Deed.Unlisted

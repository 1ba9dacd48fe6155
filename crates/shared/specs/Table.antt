-- The rows that all kinds share.
use Rattle.std.specs.Prelude.{ℕ, List}
use Rattle.wire.specs.declared.request.Request.{Request}
use Rattle.wire.specs.declared.command.Command.{Command}
use Rattle.module.specs.declared.state.Module.{Module}
use Rattle.module.specs.declared.deed.Deed.{Deed}
use Rattle.shared.specs.Standard.{standard_deed}
use Rattle.shared.specs.Extended.{extended_deed}

-- with the data bytes, and n records in link memory
abbrev pub shared_deed : Module → Request → List ℕ → ℕ → Command → Deed
shared_deed m r d n (Command.Standard command) = standard_deed m r command
shared_deed m r d n (Command.Extended command) = extended_deed m r d n command

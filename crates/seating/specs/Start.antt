-- Who sits at a desk at first.
use Rattle.std.specs.Prelude.{ℕ, List}
use Rattle.module.specs.declared.state.Module.{Module}
use Rattle.seating.specs.declared.heed.Seating.{Seating}

-- a module alone
abbrev pub alone_with : Module → Seating
alone_with m = Seating.Alone m

-- a class
abbrev pub class_with : List Module → ℕ → Seating
class_with row count = Seating.Class row count

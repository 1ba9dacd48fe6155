-- What a group's record comes to: it alters the module as a row says, or it fits none and is not listed.
use mathlib.Core.Path.{◌≡◌}
use Rattle.std.specs.Prelude.{Option, Some, None}
use Rattle.load.specs.declared.state.Load.{Load}
use Rattle.module.specs.declared.state.Module.{Module}
use Rattle.module.specs.Change.{with_load}

-- what gives the module another load
pub record Alters (m after : Module) (deed : Option Load) : Type 0 where
  pub load : Load
  pub done : deed ≡ Some load
  pub next : with_load load m ≡ after

-- a row fits, or nothing comes of it
pub data RowJudged (Row : Module → Type 0) (deed : Option Load) : Type 0 where
  fits : (next : Module) → Row next → RowJudged Row deed
  fits-none : deed ≡ None → RowJudged Row deed

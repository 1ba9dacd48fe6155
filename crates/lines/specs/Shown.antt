-- What the screen shows of a load, and by which list it names a command.
use Rattle.std.specs.Prelude.{ℕ, Bool, true, false, eqb, ltb, get_or, Option, Some, None}
use Rattle.basis.specs.Choice.{choose}
use Rattle.load.specs.declared.state.Load.{Load}
use Rattle.row.specs.declared.progress.Whom.{Whom}
use Rattle.seating.specs.declared.heed.Seating.{Seating}
use Rattle.seating.specs.Heed.{blank}
use Rattle.names.specs.declared.LoadShown.{LoadShown}

-- a seat is shown where a message was for it, or for all
abbrev pub is_for : Whom → ℕ → Bool
is_for (Whom.Seat k) i = eqb k i
is_for Whom.All i = true
is_for Whom.Nobody i = false

abbrev pub shown_of : Load → LoadShown
shown_of (Load.Dimmer lamp) = LoadShown.Level lamp.level
shown_of (Load.Outlet sockets) = LoadShown.Sockets sockets.top sockets.bottom

-- there are sixteen seats; a module alone is shown as whatever seat it is asked for
unfoldable pub shown_at : Seating → ℕ → Option LoadShown
shown_at (Seating.Alone m) i = Some (shown_of m.load)
shown_at (Seating.Class row count) i = choose (ltb i 16) (Some (shown_of (get_or row i blank).load)) None

-- that of the seat it is for; where it is for none of them, or for all, any kind's
abbrev pub shown_for : Seating → Whom → Option LoadShown
shown_for s (Whom.Seat i) = shown_at s i
shown_for s Whom.All = None
shown_for s Whom.Nobody = None

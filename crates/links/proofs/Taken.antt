-- A record that is there is taken as it is.
use Prim.Native.Nat.{ℕ, ◌<◌}
use mathlib.Core.Path.{◌≡◌}
use mathlib.Core.List.{List}
use borrow.Author.Tests.{lt-ltb}
use Rattle.basis.specs.Choice.{choose}
use Rattle.links.specs.Record.{records, record_at, record_or_blank}

pub taken : (l : List ℕ) (k : ℕ) → k < records l → record_or_blank l k ≡ record_at l k
unfolding choose
taken l k h = rw (lt-ltb k (records l) h)

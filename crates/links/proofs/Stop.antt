-- What a search comes to, by where it stops.
use Prim.Native.Nat.{ℕ, ◌+◌, ◌≤◌, ◌<◌}
use mathlib.Core.Path.{◌≡◌}
use mathlib.Core.Bool.{true, false}
use mathlib.Core.List.{List}
use borrow.Author.Tests.{lt-ltb, le-ltb}
use Rattle.std.specs.Prelude.{Ok, Err}
use Rattle.basis.specs.Choice.{choose}
use Rattle.links.specs.declared.search.Missing.{Missing}
use Rattle.links.specs.Record.{records, record_at, link_of, is_end_mark}
use Rattle.links.specs.Search.{stopped_at}

module _ (l : List ℕ) (k : ℕ) where
  pub at_memory_end : records l ≤ k → stopped_at l k ≡ record { read = records l; found = Err Missing.MemoryEnd }
  unfolding choose
  at_memory_end h = rw (le-ltb k (records l) h)

  pub at_end_mark : k < records l → is_end_mark (record_at l k) ≡ true → stopped_at l k ≡ record { read = k + 1; found = Err Missing.EndMark }
  unfolding choose
  at_end_mark h e = rw (lt-ltb k (records l) h, e)

  pub at_match : k < records l → is_end_mark (record_at l k) ≡ false → stopped_at l k ≡ record { read = k + 1; found = Ok (link_of (record_at l k)) }
  unfolding choose
  at_match h e = rw (lt-ltb k (records l) h, e)

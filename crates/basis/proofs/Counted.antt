-- A count of elements at the start of a list, as a part of it is lent by.
use Prim.Native.Nat.{ℕ, ◌≤◌}
use mathlib.Core.Path.{◌≡◌, sym}
use mathlib.Core.List.{List}
use lib.ListN.{length, take}
use lib.Seq.{length-take-le}

pub counts : (n : ℕ) (l : List ℕ) → n ≤ length l → (n ≤ length l) × (n ≡ length (take n l))
counts n l h = (h, sym (length-take-le n l h))

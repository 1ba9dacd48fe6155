-- The addresses noted so far are those of the images passed.
use mathlib.Core.Path.{◌≡◌}
use mathlib.Core.List.{map}
use lib.ListN.{length, take}
use Rattle.embed_class.specs.Row.{address_in}
use Rattle.embed_class.proofs.strip.names_of.Given as goal

abbrev pub invariant-loop-i : goal.invariant-loop-i
invariant-loop-i l = (length l.names ≡ 16) × (take l.i l.names ≡ map address_in (take l.i l.each))

-- The byte order mark at the start of a text.
use mathlib.Core.Path.{◌≡◌, refl, sym, ◌∙◌}
use mathlib.Core.Bool.{Bool}
use lib.Dec.{eqb}
use native.Mathlib.Omega.{arith}
use Rattle.std.proofs.lemmas.Bool.Decides.{nat_tests}
use Rattle.std.proofs.Common.{ℕ, List, [], ◌∷◌, nat_eq}
use Rattle.std.specs.List.{starts_with}
use Rattle.roster.specs.Roster.{is_marked}

abbrev mark : List ℕ
mark = 0xef ∷ 0xbb ∷ 0xbf ∷ []

same : (s : List ℕ) → starts_with nat_eq s mark ≡ is_marked s
same [] = refl
same (x ∷ []) = grind (arith, nat_tests)
same (x ∷ y ∷ []) = grind (arith, nat_tests)
same (x ∷ y ∷ z ∷ s) = grind (arith, nat_tests)

pub marked : (s : List ℕ) (r : Bool) → r ≡ starts_with nat_eq s mark → {b : Bool} → r ≡ b → is_marked s ≡ b
marked s r e q = sym (same s) ∙ sym e ∙ q

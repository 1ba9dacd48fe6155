-- What follows from a search: it holds where it holds of every record found, and of none.
use mathlib.Core.Path.{◌≡◌, refl}
use mathlib.Core.Bool.{true, false}
use Rattle.std.specs.Prelude.{Result, Ok, Err, is_ok}
use Rattle.links.specs.declared.memory.Link.{Link}
use Rattle.links.specs.declared.search.Missing.{Missing}
use Rattle.links.specs.Search.{if_found}

-- whether anything was found follows from it
pub told_by : (found : Result Link Missing) → is_ok found ≡ if_found found (λ link. true) false
told_by (Ok link) = refl
told_by (Err e) = refl

pub by_found : {A : Type 0} (P : A → Type 0) (found : Result Link Missing) (then : Link → A) (none : A) → ((link : Link) → P (then link)) → P none → P (if_found found then none)
by_found P (Ok link) then none f g = f link
by_found P (Err e) then none f g = g

-- of two that follow from one search
pub beside_found : {A : Type 0} (P : A → A → Type 0) (found : Result Link Missing) (f g : Link → A) (x y : A) → ((link : Link) → P (f link) (g link)) → P x y
    → P (if_found found f x) (if_found found g y)
beside_found P (Ok link) f g x y h k = h link
beside_found P (Err e) f g x y h k = k

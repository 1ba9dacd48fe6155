-- A choice by a test.
use Rattle.std.specs.Prelude.{Bool, true, false}

-- x where the test holds, y where it does not.
unfoldable pub choose : {A : Type 0} → Bool → A → A → A
choose true x y = x
choose false x y = y

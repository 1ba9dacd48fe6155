-- The words that name a kind of module.
use Rattle.std.specs.Prelude.{ℕ, Bool, List, [], ◌∷◌, map, Option, Some, None}
use Rattle.std.specs.Str.{bytes_eq}
use Rattle.std.specs.Char.{to_ascii_lowercase}
use Rattle.basis.specs.Choice.{choose}
use Rattle.roster.specs.declared.word.Kind.{Kind}

abbrev pub dimmer : List ℕ
dimmer = 0x64 ∷ 0x69 ∷ 0x6d ∷ 0x6d ∷ 0x65 ∷ 0x72 ∷ []

abbrev pub outlet : List ℕ
outlet = 0x6f ∷ 0x75 ∷ 0x74 ∷ 0x6c ∷ 0x65 ∷ 0x74 ∷ []

-- by whether it is the dimmer's name, and whether it is the outlet's
abbrev pub kind_by : Bool → Bool → Option Kind
kind_by is_dimmer is_outlet = choose is_dimmer (Some Kind.Dimmer) (choose is_outlet (Some Kind.Outlet) None)

-- the kind that a word names, byte for byte
unfoldable pub named : List ℕ → Option Kind
named w = kind_by (bytes_eq w dimmer) (bytes_eq w outlet)

-- A to Z as a to z
abbrev pub small_letters : List ℕ → List ℕ
small_letters w = map to_ascii_lowercase w

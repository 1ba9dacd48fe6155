-- What the words of the command line ask for.
use Rattle.std.specs.Prelude.{ℕ, ◌&&◌, List, [], ◌∷◌, ◌==◌, nat_lt, Option, Some, None}
use Rattle.std.specs.Str.{bytes_eq}
use Rattle.basis.specs.Choice.{choose}
use Rattle.basis.specs.Table.{Row, among, ◌⇒◌}
use Rattle.roster.specs.declared.word.Kind.{Kind}
use Rattle.roster.specs.Word.{named}
use Rattle.desk.specs.declared.Show.{Show}
use Rattle.desk.specs.declared.word.Wish.{Wish}

abbrev pub lines : List ℕ
lines = 0x6c ∷ 0x69 ∷ 0x6e ∷ 0x65 ∷ 0x73 ∷ []

-- with no word, the paper's program
abbrev pub plain : Option Wish
plain = Some (record { kind = Kind.Dimmer; show = Show.Frames })

abbrev pub by_kind : Option Kind → Show → Option Wish
by_kind None show = None
by_kind (Some kind) show = Some (record { kind = kind; show = show })

-- a kind, or `lines`
unfoldable pub one_word : List ℕ → Option Wish
one_word w = choose (bytes_eq w lines) (by_kind (Some Kind.Dimmer) Show.Lines) (by_kind (named w) Show.Frames)

-- a kind, and then `lines`
unfoldable pub two_words : List ℕ → List ℕ → Option Wish
two_words w v = choose (bytes_eq v lines) (by_kind (named w) Show.Lines) None

-- by how many words there are, the program's own name counted
abbrev pub by_count : List ℕ → List ℕ → List (Row (Option Wish))
by_count w v =
    0 ⇒ plain ∷
    1 ⇒ plain ∷
    2 ⇒ one_word w ∷
    3 ⇒ two_words w v ∷
    []

unfoldable pub wished : ℕ → List ℕ → List ℕ → Option Wish
wished count w v = among count None (by_count w v)

-- of a class: `lines`, or nothing
unfoldable pub class_wished : ℕ → List ℕ → Option Show
class_wished count w =
    choose (nat_lt count 2) (Some Show.Frames)
    (choose (count == 2 && bytes_eq w lines) (Some Show.Lines) None)

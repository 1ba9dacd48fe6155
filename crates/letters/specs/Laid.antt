-- What is laid in a lent buffer, and what a piece of text more comes to.
use Rattle.std.specs.Prelude.{ℕ, ◌≡◌, List, [], ◌++◌, ltb, length, drop}
use Rattle.basis.specs.Choice.{choose}
use Rattle.letters.specs.Page.{Page}

abbrev pub laid_in : Page → List ℕ
laid_in page = page.laid

-- nothing is laid in a buffer that is just lent, and it is as it was
abbrev pub Begins : List ℕ → Page → Type 0
Begins bytes page = (laid_in page ≡ []) × (page.behind ≡ bytes)

-- a piece behind what is laid; where it does not fit whole it is left out
unfoldable pub laid_behind : Page → List ℕ → Page
laid_behind page text = choose (ltb (length page.behind) (length text)) page record {
  laid = page.laid ++ text;
  behind = drop (length text) page.behind;
}

-- so does each piece that is written
abbrev pub Lays : Page → List ℕ → Page → Type 0
Lays before text after = after ≡ laid_behind before text

-- What a kind shows over its own load holds over the loads of all kinds.
use Rattle.load.specs.declared.entry.Entry.{Entry}
use Rattle.load.specs.Judged.{Judged, listed, other, left}

pub carried : {A B : Type 0} (Row : A → Entry → Type 0) (Wide : B → Entry → Type 0) (f : A → B) → ((x : A) (e : Entry) → Row x e → Wide (f x) e)
    → (x : A) (e : Entry) → Judged Row x e → Judged Wide (f x) e
carried Row Wide f row x e (listed h) = listed (row x e h)
carried Row Wide f row x e (other p) = other p
carried Row Wide f row x e (left p) = left p

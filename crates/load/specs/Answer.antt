-- What a table answers: a load, and an entry.
use Rattle.load.specs.declared.entry.Entry.{Entry}
use Rattle.load.specs.declared.entry.LoadEntry.{LoadEntry}

-- carried out: the load is this one then
abbrev pub becomes : {L : Type 0} → L → LoadEntry L
becomes load = record { load = load; entry = Entry.Done }

-- the load is what it was
abbrev pub stays : {L : Type 0} → L → Entry → LoadEntry L
stays load entry = record { load = load; entry = entry }

-- the same answer, of a load of another type
abbrev pub of_kind : {L M : Type 0} → (L → M) → LoadEntry L → LoadEntry M
of_kind kind x = record { load = kind x.load; entry = x.entry }

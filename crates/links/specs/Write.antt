-- A write to link memory ("Direct commands, extended").
use Rattle.std.specs.Prelude.{ℕ, ◌&&◌, List, ◌++◌, eqb, ltb, leb, length, take, drop}
use Rattle.basis.specs.Choice.{choose}
use Rattle.basis.specs.Laid.{laid}
use Rattle.links.specs.Record.{records, start_of, record_at}

-- the bytes go over the first ones of record k; the rest of it, and every other record, stays
abbrev pub written : List ℕ → ℕ → List ℕ → List ℕ
written l k bytes = take (start_of l k) l ++ laid bytes (drop (start_of l k) l)

-- nothing where there is no record k, or more than eight bytes
unfoldable pub written_if_there : List ℕ → ℕ → List ℕ → List ℕ
written_if_there l k bytes = choose (ltb k (records l) && leb (length bytes) 8) (written l k bytes) l

-- what stands at each place after the write
unfoldable pub after_write : List ℕ → ℕ → List ℕ → ℕ → List ℕ
after_write l k bytes j = choose (eqb j k) (laid bytes (record_at l k)) (record_at l j)

-- The start that the bench examples share, and bytes as the paper writes them ("Bench examples").
use Rattle.std.specs.Prelude.{ℕ, List, [], ◌∷◌, ◌++◌, replicate}
use Rattle.load.specs.declared.state.Load.{Load}
use Rattle.module.specs.declared.state.Module.{Module}
use Rattle.module.specs.Change.{with_load}
use Rattle.roster.specs.declared.word.Kind.{Kind}
use Rattle.roster.specs.Seat.{bench_of}

-- a fresh module of document 01's identity
unfoldable pub fresh : Module
fresh = bench_of Kind.Dimmer

-- the same with one value of its lamp set; the others that an example alters are set by module
unfoldable pub with_level : ℕ → Module → Module
with_level x m = with_load (Load.Dimmer (record { level = x; ramp = 0x1f; on_level = 0xff })) m

unfoldable pub with_ramp : ℕ → Module → Module
with_ramp x m = with_load (Load.Dimmer (record { level = 0x00; ramp = x; on_level = 0xff })) m

unfoldable pub us : List ℕ
us = 0x00 ∷ 0x10 ∷ 0x3a ∷ []

unfoldable pub linked : List ℕ
linked = 0xaa ∷ 0xbb ∷ 0xcc ∷ []

unfoldable pub stranger : List ℕ
stranger = 0x11 ∷ 0x22 ∷ 0x33 ∷ []

unfoldable pub zeros : ℕ → List ℕ
zeros n = replicate n 0x00

unfoldable pub first_record : List ℕ
first_record = 0xa2 ∷ 0x01 ∷ 0xaa ∷ 0xbb ∷ 0xcc ∷ 0x80 ∷ 0x1c ∷ 0x01 ∷ []

-- the record that P11 and P12 write, from the paper's second checksum
unfoldable pub other_record : List ℕ
other_record = 0xe2 ∷ 0x01 ∷ 0x08 ∷ 0xb6 ∷ 0xea ∷ 0x00 ∷ 0x1b ∷ 0x01 ∷ []

unfoldable pub memory : List ℕ
memory = first_record ++ zeros 8

-- messages to us
unfoldable pub direct : List ℕ → ℕ → ℕ → List ℕ
direct from one two = from ++ us ++ (0x0f ∷ one ∷ two ∷ [])

unfoldable pub long : List ℕ → ℕ → ℕ → List ℕ → List ℕ
long from one two bytes = from ++ us ++ (0x1f ∷ one ∷ two ∷ bytes)

unfoldable pub cleanup : List ℕ → ℕ → ℕ → List ℕ
cleanup from one two = from ++ us ++ (0x4f ∷ one ∷ two ∷ [])

unfoldable pub broadcast : List ℕ → List ℕ → ℕ → ℕ → List ℕ
broadcast from to one two = from ++ to ++ (0xcf ∷ one ∷ two ∷ [])

-- a standard reply of ours
unfoldable pub reply : List ℕ → ℕ → ℕ → ℕ → List ℕ
reply to flags one two = us ++ to ++ (flags ∷ one ∷ two ∷ [])

-- a lent room: its bytes as the call finds them
unfoldable pub room : ℕ → List ℕ
room n = replicate n 0xee

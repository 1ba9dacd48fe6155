-- Fresh hops (request 4): a reply of each type to requests whose largest hop count is 0, 1, 2 and 3, with other hops left.
use Rattle.std.specs.Prelude.{ℕ, ◌+◌, List, [], ◌∷◌, ◌++◌}
use Rattle.promises.specs.Bench.{with_level, fresh, us, linked, stranger, zeros, memory, reply, room}
use Rattle.promises.specs.Table.{Example, row}

-- a message to us, by its flags
unfoldable pub flagged_by : List ℕ → ℕ → ℕ → ℕ → List ℕ
flagged_by from flags one two = from ++ us ++ (flags ∷ one ∷ two ∷ [])

-- Get Properties of a fresh dimmer with Data 1 = 07, and its data message by its flags
unfoldable pub shown_by : ℕ → List ℕ
shown_by flags =
    us ++ linked ++
    (flags ∷ 0x2e ∷ 0x00 ∷
    0x07 ∷ 0x01 ∷ 0x00 ∷ 0x00 ∷ 0x20 ∷ 0x20 ∷ 0x1f ∷ 0xff ∷ 0x3f ∷ 0x00 ∷ 0x01 ∷ 0x00 ∷ 0x00 ∷ 0x00 ∷ [])

-- the ID broadcast by its flags
unfoldable pub id_by : ℕ → List ℕ
id_by flags = us ++ (0x01 ∷ 0x0f ∷ 0xc1 ∷ flags ∷ 0x01 ∷ 0x00 ∷ [])

-- by the hops of a request, bits 3 to 0: the flags of an ACK, a NAK, a cleanup ACK, a cleanup NAK, a data message and an ID broadcast
unfoldable pub each_type : ℕ → ℕ → ℕ → ℕ → ℕ → ℕ → ℕ → List Example
each_type hops ack nak cleanup-ack cleanup-nak shown id =
    -- beep
    row fresh memory (flagged_by linked hops 0x30 0x00) (room 9)
    0 (reply linked ack 0x30 0x00) 1 fresh memory (reply linked ack 0x30 0x00) ∷
    -- per cent 65
    row fresh memory (flagged_by linked hops 0x39 0x65) (room 9)
    7 (reply linked nak 0x39 0xfb) 1 fresh memory (reply linked nak 0x39 0xfb) ∷
    -- group 01, and 02, which has no record
    row fresh memory (flagged_by linked (0x40 + hops) 0x11 0x01) (room 9)
    0 (reply linked cleanup-ack 0x11 0x01) 1 (with_level 0x80 fresh) memory (reply linked cleanup-ack 0x11 0x01) ∷
    row fresh memory (flagged_by linked (0x40 + hops) 0x11 0x02) (room 9)
    6 (reply linked cleanup-nak 0x11 0xff) 2 fresh memory (reply linked cleanup-nak 0x11 0xff) ∷
    -- Get Properties
    row fresh memory (flagged_by linked (0x10 + hops) 0x2e 0x00 ++ (0x07 ∷ zeros 13)) (room 32)
    0 (reply linked ack 0x2e 0x00 ++ shown_by shown) 1 fresh memory (reply linked ack 0x2e 0x00 ++ shown_by shown) ∷
    -- a stranger's ID request
    row fresh memory (flagged_by stranger hops 0x10 0x00) (room 18)
    0 (reply stranger ack 0x10 0x00 ++ id_by id) 0 fresh memory (reply stranger ack 0x10 0x00 ++ id_by id) ∷
    []

unfoldable pub hop_examples : List Example
hop_examples =
    each_type 0x00 0x20 0xa0 0x60 0xe0 0x10 0x80 ++
    each_type 0x09 0x25 0xa5 0x65 0xe5 0x15 0x85 ++
    each_type 0x0e 0x2a 0xaa 0x6a 0xea 0x1a 0x8a ++
    each_type 0x07 0x2f 0xaf 0x6f 0xef 0x1f 0x8f

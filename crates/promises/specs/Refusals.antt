-- Bad messages, and the order of refusals ("Result numbers"), beyond the examples that the paper marks.
use Rattle.std.specs.Prelude.{ℕ, List, [], ◌∷◌, ◌++◌, take}
use Rattle.promises.specs.Bench.{fresh, us, linked, stranger, zeros, other_record, memory, direct, long, cleanup, broadcast, reply, room}
use Rattle.promises.specs.Table.{Example, row}

-- a ping of the linked sender, by its flags
unfoldable pub ping : ℕ → List ℕ
ping flags = linked ++ us ++ (flags ∷ 0x0f ∷ 0x00 ∷ [])

unfoldable pub refusals : List Example
refusals =
    -- 2 before 1: no message and no link memory
    row fresh [] [] (room 64)
    2 [] 0 fresh [] (room 64) ∷
    -- 1: 8 bytes
    row fresh memory (take 8 (ping 0x0f)) (room 64)
    1 [] 0 fresh memory (room 64) ∷
    -- 1: 10 bytes
    row fresh memory (ping 0x0f ++ zeros 1) (room 64)
    1 [] 0 fresh memory (room 64) ∷
    -- 1: 22 bytes
    row fresh memory (ping 0x1f ++ zeros 13) (room 64)
    1 [] 0 fresh memory (room 64) ∷
    -- 1: 24 bytes
    row fresh memory (ping 0x1f ++ zeros 15) (room 64)
    1 [] 0 fresh memory (room 64) ∷
    -- 1: 9 bytes with bit 4 set
    row fresh memory (ping 0x1f) (room 64)
    1 [] 0 fresh memory (room 64) ∷
    -- 1: 23 bytes with bit 4 clear
    row fresh memory (ping 0x0f ++ zeros 14) (room 64)
    1 [] 0 fresh memory (room 64) ∷
    -- 3: ACK
    row fresh memory (ping 0x2f) (room 64)
    3 [] 0 fresh memory (room 64) ∷
    -- 3: cleanup ACK
    row fresh memory (ping 0x6f) (room 64)
    3 [] 0 fresh memory (room 64) ∷
    -- 3: broadcast
    row fresh memory (ping 0x8f) (room 64)
    3 [] 0 fresh memory (room 64) ∷
    -- 3: NAK
    row fresh memory (ping 0xaf) (room 64)
    3 [] 0 fresh memory (room 64) ∷
    -- 3: cleanup NAK
    row fresh memory (ping 0xef) (room 64)
    3 [] 0 fresh memory (room 64) ∷
    -- 3: an extended cleanup
    row fresh memory (ping 0x5f ++ zeros 14) (room 64)
    3 [] 0 fresh memory (room 64) ∷
    -- 3: an extended group broadcast
    row fresh memory (ping 0xdf ++ zeros 14) (room 64)
    3 [] 0 fresh memory (room 64) ∷
    -- 3: direct, To not ours
    row fresh memory (linked ++ (0x00 ∷ 0x10 ∷ 0x3b ∷ 0x0f ∷ 0x0f ∷ 0x00 ∷ [])) (room 64)
    3 [] 0 fresh memory (room 64) ∷
    -- 3: cleanup, To not ours
    row fresh memory (linked ++ (0x00 ∷ 0x10 ∷ 0x3b ∷ 0x4f ∷ 0x11 ∷ 0x01 ∷ [])) (room 64)
    3 [] 0 fresh memory (room 64) ∷
    -- 3 before 4: To not ours, and the sum wrong
    row fresh memory (linked ++ (0x00 ∷ 0x10 ∷ 0x3b ∷ 0x1f ∷ 0x20 ∷ 0x05 ∷ zeros 14)) (room 64)
    3 [] 0 fresh memory (room 64) ∷
    -- 4 before 6: a stranger, and the sum wrong
    row fresh memory (long stranger 0x20 0x05 (zeros 14)) (room 64)
    4 [] 0 fresh memory (room 64) ∷
    -- 4: an extended ping is checked
    row fresh memory (ping 0x1f ++ zeros 14) (room 64)
    4 [] 0 fresh memory (room 64) ∷
    -- 6 before 7: a stranger, and no per cent
    row fresh memory (direct stranger 0x39 0x65) (room 64)
    6 (reply stranger 0xaf 0x39 0xff) 2 fresh memory (reply stranger 0xaf 0x39 0xff ++ room 55) ∷
    -- 6: an extended ping of a stranger
    row fresh memory (long stranger 0x0f 0x00 (zeros 13 ++ (0xf1 ∷ []))) (room 64)
    6 (reply stranger 0xaf 0x0f 0xff) 2 fresh memory (reply stranger 0xaf 0x0f 0xff ++ room 55) ∷
    -- 7: an extended ping of a linked sender
    row fresh memory (long linked 0x0f 0x00 (zeros 13 ++ (0xf1 ∷ []))) (room 64)
    7 (reply linked 0xaf 0x0f 0xfb) 1 fresh memory (reply linked 0xaf 0x0f 0xfb ++ room 55) ∷
    -- 7: Get Properties with Command 2 = 01, unchecked
    row fresh memory (long linked 0x2e 0x01 (zeros 14)) (room 64)
    7 (reply linked 0xaf 0x2e 0xfb) 1 fresh memory (reply linked 0xaf 0x2e 0xfb ++ room 55) ∷
    -- 7: the write of source document 000, whose checksum is 58
    row fresh memory
    (long linked 0x2f 0x00 (0x00 ∷ 0x02 ∷ 0xff ∷ 0xf0 ∷ 0x08 ∷ 0xa2 ∷ 0x05 ∷ 0x00 ∷ 0x5e ∷ 0x5d ∷ 0xfe ∷ 0x1f ∷ 0x01 ∷ 0x58 ∷ []))
    (room 64)
    7 (reply linked 0xaf 0x2f 0xfb) 1 fresh memory (reply linked 0xaf 0x2f 0xfb ++ room 55) ∷
    -- 7: a cleanup with Command 1 = 15
    row fresh memory (cleanup linked 0x15 0x01) (room 64)
    7 (reply linked 0xef 0x15 0xfb) 1 fresh memory (reply linked 0xef 0x15 0xfb ++ room 55) ∷
    -- 5 for 6: no room for the NAK
    row fresh memory (direct stranger 0x11 0x80) (room 8)
    5 [] 2 fresh memory (room 8) ∷
    -- 5 for 7: no room for the NAK
    row fresh memory (direct linked 0x39 0x65) (room 8)
    5 [] 1 fresh memory (room 8) ∷
    -- 5: the record is not written
    row fresh memory (long linked 0x2f 0x00 (0x01 ∷ 0x02 ∷ 0x0f ∷ 0xff ∷ 0x08 ∷ (other_record ++ (0x11 ∷ [])))) (room 8)
    5 [] 1 fresh memory (room 8) ∷
    -- 8: a broadcast to no group
    row fresh memory (broadcast linked (0x00 ∷ 0x01 ∷ 0x01 ∷ []) 0x11 0x00) (room 64)
    8 [] 0 fresh memory (room 64) ∷
    -- 8: a broadcast with Command 1 = 15
    row fresh memory (broadcast linked (0x00 ∷ 0x00 ∷ 0x01 ∷ []) 0x15 0x00) (room 64)
    8 [] 0 fresh memory (room 64) ∷
    -- 8: a broadcast to a group with no record
    row fresh memory (broadcast linked (0x00 ∷ 0x00 ∷ 0x02 ∷ []) 0x11 0x00) (room 64)
    8 [] 2 fresh memory (room 64) ∷
    []

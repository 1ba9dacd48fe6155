-- The bench examples that are marked P ("Bench examples"), and those of request 3 behind P13, which they vary.
use Rattle.std.specs.Prelude.{ℕ, List, [], ◌∷◌, ◌++◌}
use Rattle.module.specs.Change.{with_flags, with_delta}
use Rattle.promises.specs.Bench.{with_level, with_ramp, fresh, linked, stranger}
use Rattle.promises.specs.Bench.{zeros, first_record, other_record, memory, direct, long, cleanup, broadcast, reply, room}
use Rattle.promises.specs.Table.{Example, row}

-- P13's reply: an ACK, and both records
unfoldable pub head : List ℕ
head = 0x00 ∷ 0x10 ∷ 0x3a ∷ 0xaa ∷ 0xbb ∷ 0xcc ∷ 0x1f ∷ 0x2f ∷ 0x00 ∷ []

unfoldable pub database : List ℕ
database =
    reply linked 0x2f 0x2f 0x00 ++
    (head ++ (0x07 ∷ 0x01 ∷ 0x0f ∷ 0xff ∷ 0x00 ∷ (first_record ++ (0x00 ∷ [])))) ++
    (head ++ (0x07 ∷ 0x01 ∷ 0x0f ∷ 0xf7 ∷ 0x00 ∷ (zeros 8 ++ (0x00 ∷ []))))

-- the reply to Get from the last of 256 records, a blank one
unfoldable pub last : List ℕ
last = reply linked 0x2f 0x2f 0x00 ++ (head ++ (0x07 ∷ 0x01 ∷ 0x08 ∷ 0x07 ∷ 0x00 ∷ zeros 9))

unfoldable pub examples : List Example
examples =
    -- P1
    row fresh memory [] (room 64)
    1 [] 0 fresh memory (room 64) ∷
    -- P2: 0 bytes
    row fresh [] (direct linked 0x11 0x80) (room 64)
    2 [] 0 fresh [] (room 64) ∷
    -- P2: 7 bytes
    row fresh (zeros 7) (direct linked 0x11 0x80) (room 64)
    2 [] 0 fresh (zeros 7) (room 64) ∷
    -- P2: 2,056 bytes
    row fresh (first_record ++ zeros 2048) (direct linked 0x11 0x80) (room 64)
    2 [] 0 fresh (first_record ++ zeros 2048) (room 64) ∷
    -- P2: 8 bytes
    row fresh first_record (direct linked 0x11 0x80) (room 64)
    0 (reply linked 0x2f 0x11 0x80) 1 (with_level 0x80 fresh) first_record (reply linked 0x2f 0x11 0x80 ++ room 55) ∷
    -- P2: 2,048 bytes
    row fresh (first_record ++ zeros 2040) (direct linked 0x11 0x80) (room 64)
    0 (reply linked 0x2f 0x11 0x80) 1 (with_level 0x80 fresh) (first_record ++ zeros 2040) (reply linked 0x2f 0x11 0x80 ++ room 55) ∷
    -- P3
    row fresh memory (direct stranger 0x0f 0x00) (room 64)
    0 (reply stranger 0x2f 0x0f 0x00) 0 fresh memory (reply stranger 0x2f 0x0f 0x00 ++ room 55) ∷
    -- P4
    row fresh memory (direct stranger 0x11 0x80) (room 64)
    6 (reply stranger 0xaf 0x11 0xff) 2 fresh memory (reply stranger 0xaf 0x11 0xff ++ room 55) ∷
    -- P5
    row fresh memory (direct linked 0x11 0x80) (room 64)
    0 (reply linked 0x2f 0x11 0x80) 1 (with_level 0x80 fresh) memory (reply linked 0x2f 0x11 0x80 ++ room 55) ∷
    -- P6: level F7
    row (with_level 0xf7 fresh) memory (direct linked 0x15 0x00) (room 64)
    0 (reply linked 0x2f 0x15 0x00) 1 (with_level 0xff fresh) memory (reply linked 0x2f 0x15 0x00 ++ room 55) ∷
    -- P6: level FA
    row (with_level 0xfa fresh) memory (direct linked 0x15 0x00) (room 64)
    0 (reply linked 0x2f 0x15 0x00) 1 (with_level 0xff fresh) memory (reply linked 0x2f 0x15 0x00 ++ room 55) ∷
    -- P6: level 07
    row (with_level 0x07 fresh) memory (direct linked 0x16 0x00) (room 64)
    0 (reply linked 0x2f 0x16 0x00) 1 fresh memory (reply linked 0x2f 0x16 0x00 ++ room 55) ∷
    -- P7: 39 32
    row fresh memory (direct linked 0x39 0x32) (room 64)
    0 (reply linked 0x2f 0x39 0x32) 1 (with_level 0x80 fresh) memory (reply linked 0x2f 0x39 0x32 ++ room 55) ∷
    -- P7: then 19 06
    row (with_level 0x80 fresh) memory (direct linked 0x19 0x06) (room 64)
    0 (reply linked 0x2f 0x00 0x32) 1 (with_level 0x80 fresh) memory (reply linked 0x2f 0x00 0x32 ++ room 55) ∷
    -- P7: 39 65
    row fresh memory (direct linked 0x39 0x65) (room 64)
    7 (reply linked 0xaf 0x39 0xfb) 1 fresh memory (reply linked 0xaf 0x39 0xfb ++ room 55) ∷
    -- P8: 2E F7
    row fresh memory (direct linked 0x2e 0xf7) (room 64)
    0 (reply linked 0x2f 0x2e 0xf7) 1 (with_level 0xff fresh) memory (reply linked 0x2f 0x2e 0xf7 ++ room 55) ∷
    -- P8: 2E 0F
    row fresh memory (direct linked 0x2e 0x0f) (room 64)
    0 (reply linked 0x2f 0x2e 0x0f) 1 (with_level 0x0f fresh) memory (reply linked 0x2f 0x2e 0x0f ++ room 55) ∷
    -- P9: DB
    row fresh memory (long linked 0x20 0x05 (zeros 13 ++ (0xdb ∷ []))) (room 64)
    0 (reply linked 0x2f 0x20 0x05) 1 fresh memory (reply linked 0x2f 0x20 0x05 ++ room 55) ∷
    -- P9: DB, where bit 2 was set
    row (with_flags 0xff fresh) memory (long linked 0x20 0x05 (zeros 13 ++ (0xdb ∷ []))) (room 64)
    0 (reply linked 0x2f 0x20 0x05) 1 (with_flags 0xfb fresh) memory (reply linked 0x2f 0x20 0x05 ++ room 55) ∷
    -- P9: DC
    row fresh memory (long linked 0x20 0x05 (zeros 13 ++ (0xdc ∷ []))) (room 64)
    4 [] 0 fresh memory (room 64) ∷
    -- P10: ramp 1F
    row fresh memory (long linked 0x2e 0x00 (0x00 ∷ 0x05 ∷ 0x1f ∷ (zeros 10 ++ (0xae ∷ [])))) (room 64)
    0 (reply linked 0x2f 0x2e 0x00) 1 fresh memory (reply linked 0x2f 0x2e 0x00 ++ room 55) ∷
    -- P10: ramp 1F, where it was 00
    row (with_ramp 0x00 fresh) memory (long linked 0x2e 0x00 (0x00 ∷ 0x05 ∷ 0x1f ∷ (zeros 10 ++ (0xae ∷ [])))) (room 64)
    0 (reply linked 0x2f 0x2e 0x00) 1 fresh memory (reply linked 0x2f 0x2e 0x00 ++ room 55) ∷
    -- P10: ramp 20
    row fresh memory (long linked 0x2e 0x00 (0x00 ∷ 0x05 ∷ 0x20 ∷ (zeros 10 ++ (0xad ∷ [])))) (room 64)
    7 (reply linked 0xaf 0x2e 0xfb) 1 fresh memory (reply linked 0xaf 0x2e 0xfb ++ room 55) ∷
    -- P11: Data 5 = 08
    row fresh memory (long linked 0x2f 0x00 (0x01 ∷ 0x02 ∷ 0x0f ∷ 0xff ∷ 0x08 ∷ (other_record ++ (0x11 ∷ [])))) (room 64)
    0 (reply linked 0x2f 0x2f 0x00) 1 (with_delta 0x01 fresh) (other_record ++ zeros 8) (reply linked 0x2f 0x2f 0x00 ++ room 55) ∷
    -- P11: Data 5 = 09
    row fresh memory (long linked 0x2f 0x00 (0x01 ∷ 0x02 ∷ 0x0f ∷ 0xff ∷ 0x09 ∷ (other_record ++ (0x10 ∷ [])))) (room 64)
    7 (reply linked 0xaf 0x2f 0xfb) 1 fresh memory (reply linked 0xaf 0x2f 0xfb ++ room 55) ∷
    -- P11: Data 5 = 00
    row fresh memory (long linked 0x2f 0x00 (0x01 ∷ 0x02 ∷ 0x0f ∷ 0xff ∷ 0x00 ∷ (other_record ++ (0x19 ∷ [])))) (room 64)
    7 (reply linked 0xaf 0x2f 0xfb) 1 fresh memory (reply linked 0xaf 0x2f 0xfb ++ room 55) ∷
    -- P12: 0FF7
    row fresh memory (long linked 0x2f 0x00 (0x01 ∷ 0x02 ∷ 0x0f ∷ 0xf7 ∷ 0x08 ∷ (other_record ++ (0x19 ∷ [])))) (room 64)
    0 (reply linked 0x2f 0x2f 0x00) 1 (with_delta 0x01 fresh) (first_record ++ other_record) (reply linked 0x2f 0x2f 0x00 ++ room 55) ∷
    -- P12: 0FFE
    row fresh memory (long linked 0x2f 0x00 (0x01 ∷ 0x02 ∷ 0x0f ∷ 0xfe ∷ 0x08 ∷ (other_record ++ (0x12 ∷ [])))) (room 64)
    7 (reply linked 0xaf 0x2f 0xfb) 1 fresh memory (reply linked 0xaf 0x2f 0xfb ++ room 55) ∷
    -- P12: 0FEF
    row fresh memory (long linked 0x2f 0x00 (0x01 ∷ 0x02 ∷ 0x0f ∷ 0xef ∷ 0x08 ∷ (other_record ++ (0x21 ∷ [])))) (room 64)
    7 (reply linked 0xaf 0x2f 0xfb) 1 fresh memory (reply linked 0xaf 0x2f 0xfb ++ room 55) ∷
    -- P13: room enough
    row fresh memory (long linked 0x2f 0x00 (0x07 ∷ 0x00 ∷ 0x0f ∷ 0xff ∷ zeros 10)) (room 64)
    0 database 1 fresh memory (database ++ room 9) ∷
    -- P13: room 54
    row fresh memory (long linked 0x2f 0x00 (0x07 ∷ 0x00 ∷ 0x0f ∷ 0xff ∷ zeros 10)) (room 54)
    5 [] 1 fresh memory (room 54) ∷
    -- request 3: Get at 0000, which shows 0FFF
    row fresh memory (long linked 0x2f 0x00 (0x07 ∷ 0x00 ∷ 0x00 ∷ 0x00 ∷ zeros 10)) (room 64)
    0 database 1 fresh memory (database ++ room 9) ∷
    -- request 3: Set at 0000
    row fresh memory (long linked 0x2f 0x00 (0x01 ∷ 0x02 ∷ 0x00 ∷ 0x00 ∷ 0x08 ∷ (other_record ++ (0x1f ∷ [])))) (room 64)
    0 (reply linked 0x2f 0x2f 0x00) 1 (with_delta 0x01 fresh) (other_record ++ zeros 8) (reply linked 0x2f 0x2f 0x00 ++ room 55) ∷
    -- request 3: at 0001, 0007 and 0008
    row fresh memory (long linked 0x2f 0x00 (0x07 ∷ 0x00 ∷ 0x00 ∷ 0x01 ∷ zeros 10)) (room 64)
    7 (reply linked 0xaf 0x2f 0xfb) 1 fresh memory (reply linked 0xaf 0x2f 0xfb ++ room 55) ∷
    row fresh memory (long linked 0x2f 0x00 (0x07 ∷ 0x00 ∷ 0x00 ∷ 0x07 ∷ zeros 10)) (room 64)
    7 (reply linked 0xaf 0x2f 0xfb) 1 fresh memory (reply linked 0xaf 0x2f 0xfb ++ room 55) ∷
    row fresh memory (long linked 0x2f 0x00 (0x01 ∷ 0x02 ∷ 0x00 ∷ 0x08 ∷ 0x08 ∷ (other_record ++ (0x17 ∷ [])))) (room 64)
    7 (reply linked 0xaf 0x2f 0xfb) 1 fresh memory (reply linked 0xaf 0x2f 0xfb ++ room 55) ∷
    -- request 3: of 256 records the last is named by 0807 as before, and none by 07FF
    row fresh (first_record ++ zeros 2040) (long linked 0x2f 0x00 (0x07 ∷ 0x00 ∷ 0x08 ∷ 0x07 ∷ zeros 10)) (room 64)
    0 last 1 fresh (first_record ++ zeros 2040) (last ++ room 32) ∷
    row fresh (first_record ++ zeros 2040) (long linked 0x2f 0x00 (0x07 ∷ 0x00 ∷ 0x07 ∷ 0xff ∷ zeros 10)) (room 64)
    7 (reply linked 0xaf 0x2f 0xfb) 1 fresh (first_record ++ zeros 2040) (reply linked 0xaf 0x2f 0xfb ++ room 55) ∷
    -- P14
    row fresh memory (broadcast linked (0x00 ∷ 0x00 ∷ 0x01 ∷ []) 0x11 0x00) (room 64)
    0 [] 1 (with_level 0x80 fresh) memory (room 64) ∷
    -- P15
    row fresh memory (cleanup linked 0x11 0x02) (room 64)
    6 (reply linked 0xef 0x11 0xff) 2 fresh memory (reply linked 0xef 0x11 0xff ++ room 55) ∷
    []

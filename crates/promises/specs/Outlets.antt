-- Examples of an outlet (request 1), from a fresh one of identity 00 10 3A, 02, 39, C2, 00 and the bench's link memory.
use Rattle.std.specs.Prelude.{ℕ, Bool, true, false, List, [], ◌∷◌, ◌++◌}
use Rattle.load.specs.declared.state.Load.{Load}
use Rattle.module.specs.declared.state.Module.{Module}
use Rattle.module.specs.Module.{fresh_outlet}
use Rattle.module.specs.Change.{with_flags, with_led, with_x10, with_delta, with_load}
use Rattle.promises.specs.Bench.{fresh, us, linked, stranger, zeros, first_record, other_record, memory}
use Rattle.promises.specs.Bench.{direct, long, cleanup, broadcast, reply, room}
use Rattle.promises.specs.Examples.{database}
use Rattle.promises.specs.Table.{Example, row}

unfoldable pub outlet : Module
outlet =
    fresh_outlet
    (record { address = record { high = 0x00; middle = 0x10; low = 0x3a }; category = 0x02; subcategory = 0x39; firmware = 0xc2; revision = 0x00 })

-- the same with its top and its bottom socket so
unfoldable pub switched : Bool → Bool → Module
switched top bottom = with_load (Load.Outlet (record { top = top; bottom = bottom })) outlet

-- the linked sender's record by its D1 and D3
unfoldable pub record_of : ℕ → ℕ → List ℕ
record_of d1 d3 = 0xa2 ∷ 0x01 ∷ 0xaa ∷ 0xbb ∷ 0xcc ∷ d1 ∷ 0x1c ∷ d3 ∷ []

unfoldable pub to_top_off : List ℕ
to_top_off = record_of 0x00 0x01 ++ zeros 8

unfoldable pub to_bottom : List ℕ
to_bottom = record_of 0x80 0x02 ++ zeros 8

-- a record that names no socket, before one that does
unfoldable pub to_neither : List ℕ
to_neither = record_of 0x80 0x03 ++ first_record

unfoldable pub group_1 : List ℕ
group_1 = 0x00 ∷ 0x00 ∷ 0x01 ∷ []

-- Get Properties, with Data 1 = 07, and what it is answered with, by the LED
unfoldable pub get : List ℕ
get = long linked 0x2e 0x00 (0x07 ∷ zeros 13)

unfoldable pub got : ℕ → List ℕ
got led =
    reply linked 0x2f 0x2e 0x00 ++
    (us ++ linked ++
    (0x1f ∷ 0x2e ∷ 0x00 ∷
    0x07 ∷ 0x01 ∷ 0x00 ∷ 0x00 ∷ 0x20 ∷ 0x20 ∷ 0x1f ∷ 0xff ∷ led ∷ 0x00 ∷ 0x01 ∷ 0x00 ∷ 0x00 ∷ 0x00 ∷ []))

unfoldable pub id : List ℕ
id = 0x00 ∷ 0x10 ∷ 0x3a ∷ 0x02 ∷ 0x39 ∷ 0xc2 ∷ 0x8f ∷ 0x01 ∷ 0x00 ∷ []

-- where nothing is sent
unfoldable pub mute : Module → List ℕ → List ℕ → ℕ → ℕ → Module → Example
mute m l message number read next = row m l message (room 64) number [] read next l (room 64)

-- where a standard reply is sent: its receiver, flags, Command 1 and Command 2
unfoldable pub answered : Module → List ℕ → List ℕ → ℕ → List ℕ → ℕ → ℕ → ℕ → ℕ → Module → Example
answered m l message number to flags one two read next =
    row m l message (room 64) number (reply to flags one two) read next l (reply to flags one two ++ room 55)

-- of the linked sender: ACKed, and not listed
unfoldable pub takes : Module → List ℕ → ℕ → ℕ → Module → Example
takes m message one two next = answered m memory message 0 linked 0x2f one two 1 next

unfoldable pub refuses : Module → List ℕ → ℕ → Example
refuses m message one = answered m memory message 7 linked 0xaf one 0xfb 1 m

unfoldable pub outlets : List Example
outlets =
    -- 11: the top socket on, whatever Command 2
    takes outlet (direct linked 0x11 0x00) 0x11 0x00 (switched true false) ∷
    takes (switched false true) (direct linked 0x11 0x80) 0x11 0x80 (switched true true) ∷
    -- 13: off
    takes (switched true true) (direct linked 0x13 0xff) 0x13 0xff (switched false true) ∷
    -- extended 11 with Data 1 = 02: the bottom socket on, whatever Command 2
    takes outlet (long linked 0x11 0x00 (0x02 ∷ (zeros 12 ++ (0xed ∷ [])))) 0x11 0x00 (switched false true) ∷
    takes (switched true false) (long linked 0x11 0xff (0x02 ∷ (zeros 12 ++ (0xee ∷ [])))) 0x11 0xff (switched true true) ∷
    -- extended 13: off
    takes (switched true true) (long linked 0x13 0x00 (0x02 ∷ (zeros 12 ++ (0xeb ∷ [])))) 0x13 0x00 (switched true false) ∷
    -- with another Data 1
    refuses outlet (long linked 0x11 0x00 (0x01 ∷ (zeros 12 ++ (0xee ∷ [])))) 0x11 ∷
    refuses outlet (long linked 0x13 0x00 (0x00 ∷ (zeros 12 ++ (0xed ∷ [])))) 0x13 ∷
    -- with a wrong sum
    mute outlet memory (long linked 0x11 0x00 (0x02 ∷ (zeros 12 ++ (0xee ∷ [])))) 4 0 outlet ∷
    -- 19 00: FF or 00 for the top socket, after the delta
    takes outlet (direct linked 0x19 0x00) 0x00 0x00 outlet ∷
    takes (switched false true) (direct linked 0x19 0x00) 0x00 0x00 (switched false true) ∷
    takes (with_delta 0x05 (switched true false)) (direct linked 0x19 0x00) 0x05 0xff (with_delta 0x05 (switched true false)) ∷
    -- 19 01: both
    takes outlet (direct linked 0x19 0x01) 0x00 0x00 outlet ∷
    takes (switched true false) (direct linked 0x19 0x01) 0x00 0x01 (switched true false) ∷
    takes (switched false true) (direct linked 0x19 0x01) 0x00 0x02 (switched false true) ∷
    takes (switched true true) (direct linked 0x19 0x01) 0x00 0x03 (switched true true) ∷
    -- 20 00 to 0F by the flag rule, and no further
    takes outlet (long linked 0x20 0x00 (zeros 13 ++ (0xe0 ∷ []))) 0x20 0x00 (with_flags 0x01 outlet) ∷
    takes (with_flags 0xff outlet) (long linked 0x20 0x0f (zeros 13 ++ (0xd1 ∷ []))) 0x20 0x0f (with_flags 0x7f outlet) ∷
    refuses outlet (long linked 0x20 0x10 (zeros 13 ++ (0xd0 ∷ []))) 0x20 ∷
    -- 20 04 to 07: load sense, bottom then top, stored
    takes outlet (long linked 0x20 0x04 (zeros 13 ++ (0xdc ∷ []))) 0x20 0x04 (with_flags 0x04 outlet) ∷
    takes (with_flags 0xff outlet) (long linked 0x20 0x05 (zeros 13 ++ (0xdb ∷ []))) 0x20 0x05 (with_flags 0xfb outlet) ∷
    takes outlet (long linked 0x20 0x06 (zeros 13 ++ (0xda ∷ []))) 0x20 0x06 (with_flags 0x08 outlet) ∷
    takes (with_flags 0xff outlet) (long linked 0x20 0x07 (zeros 13 ++ (0xd9 ∷ []))) 0x20 0x07 (with_flags 0xf7 outlet) ∷
    takes (with_flags 0x0c outlet) (direct linked 0x1f 0x00) 0x1f 0x0c (with_flags 0x0c outlet) ∷
    -- Get Properties: the fresh ramp and on level, before and after
    row outlet memory get (room 64)
    0 (got 0x3f) 1 outlet memory (got 0x3f ++ room 32) ∷
    row (with_led 0x7f (switched true true)) memory get (room 64)
    0 (got 0x7f) 1 (with_led 0x7f (switched true true)) memory (got 0x7f ++ room 32) ∷
    -- house and unit, and the LED, are set as on a dimmer
    takes outlet (long linked 0x2e 0x00 (0x00 ∷ 0x04 ∷ 0x06 ∷ 0x0a ∷ (zeros 9 ++ (0xbe ∷ [])))) 0x2e 0x00 (with_x10 0x06 0x0a outlet) ∷
    takes outlet (long linked 0x2e 0x00 (0x00 ∷ 0x07 ∷ 0x7f ∷ (zeros 10 ++ (0x4c ∷ [])))) 0x2e 0x00 (with_led 0x7f outlet) ∷
    refuses outlet (long linked 0x2e 0x00 (0x00 ∷ 0x07 ∷ 0x10 ∷ (zeros 10 ++ (0xbb ∷ [])))) 0x2e ∷
    -- 0F, 0D, 1F 01, 30
    answered outlet memory (direct linked 0x0f 0x00) 0 linked 0x2f 0x0f 0x00 0 outlet ∷
    takes outlet (direct linked 0x0d 0x00) 0x0d 0x02 outlet ∷
    takes (with_delta 0x05 outlet) (direct linked 0x1f 0x01) 0x1f 0x05 (with_delta 0x05 outlet) ∷
    takes (switched true true) (direct linked 0x30 0x00) 0x30 0x00 (switched true true) ∷
    -- the database is read, and a record written
    row (switched true false) memory (long linked 0x2f 0x00 (0x07 ∷ 0x00 ∷ 0x0f ∷ 0xff ∷ zeros 10)) (room 64)
    0 database 1 (switched true false) memory (database ++ room 9) ∷
    row (switched true false) memory (long linked 0x2f 0x00 (0x01 ∷ 0x02 ∷ 0x0f ∷ 0xf7 ∷ 0x08 ∷ (other_record ++ (0x19 ∷ [])))) (room 64)
    0 (reply linked 0x2f 0x2f 0x00) 1 (with_delta 0x01 (switched true false)) (first_record ++ other_record) (reply linked 0x2f 0x2f 0x00 ++ room 55) ∷
    -- not legal here
    refuses outlet (direct linked 0x12 0x80) 0x12 ∷
    refuses (switched true true) (direct linked 0x14 0x00) 0x14 ∷
    refuses outlet (direct linked 0x15 0x00) 0x15 ∷
    refuses (switched true true) (direct linked 0x16 0x00) 0x16 ∷
    refuses outlet (direct linked 0x21 0x80) 0x21 ∷
    refuses outlet (direct linked 0x39 0x32) 0x39 ∷
    refuses outlet (direct linked 0x2e 0xf7) 0x2e ∷
    refuses (switched true true) (direct linked 0x2f 0x00) 0x2f ∷
    refuses outlet (direct linked 0x19 0x02) 0x19 ∷
    refuses outlet (direct linked 0x19 0x06) 0x19 ∷
    -- ramp 1F, and on level 80
    refuses outlet (long linked 0x2e 0x00 (0x00 ∷ 0x05 ∷ 0x1f ∷ (zeros 10 ++ (0xae ∷ [])))) 0x2e ∷
    refuses outlet (long linked 0x2e 0x00 (0x00 ∷ 0x06 ∷ 0x80 ∷ (zeros 10 ++ (0x4c ∷ [])))) 0x2e ∷
    -- nor is on a dimmer what an outlet has
    refuses fresh (direct linked 0x19 0x01) 0x19 ∷
    refuses fresh (long linked 0x11 0x00 (0x02 ∷ (zeros 12 ++ (0xed ∷ [])))) 0x11 ∷
    refuses fresh (long linked 0x13 0x00 (0x02 ∷ (zeros 12 ++ (0xeb ∷ [])))) 0x13 ∷
    -- a stranger's ID request: category 02, subcategory 39, firmware C2, and the revision
    row outlet memory (direct stranger 0x10 0x00) (room 64)
    0 (reply stranger 0x2f 0x10 0x00 ++ id) 0 outlet memory (reply stranger 0x2f 0x10 0x00 ++ id ++ room 46) ∷
    -- and nothing else for a stranger
    answered outlet memory (direct stranger 0x11 0x80) 6 stranger 0xaf 0x11 0xff 2 outlet ∷
    answered outlet memory (direct stranger 0x12 0x80) 6 stranger 0xaf 0x12 0xff 2 outlet ∷
    -- group broadcasts: D3 = 01, 02, and neither
    mute outlet memory (broadcast linked group_1 0x11 0x00) 0 1 (switched true false) ∷
    mute outlet to_bottom (broadcast linked group_1 0x12 0x00) 0 1 (switched false true) ∷
    mute (switched true true) memory (broadcast linked group_1 0x13 0x00) 0 1 (switched false true) ∷
    mute (switched true true) to_bottom (broadcast linked group_1 0x14 0x00) 0 1 (switched true false) ∷
    mute (switched true true) to_top_off (broadcast linked group_1 0x11 0x00) 0 1 (switched false true) ∷
    mute outlet to_neither (broadcast linked group_1 0x11 0x00) 8 1 outlet ∷
    mute (switched true true) to_neither (broadcast linked group_1 0x13 0x00) 8 1 (switched true true) ∷
    -- cleanups: the same
    answered outlet memory (cleanup linked 0x11 0x01) 0 linked 0x6f 0x11 0x01 1 (switched true false) ∷
    answered outlet to_bottom (cleanup linked 0x12 0x01) 0 linked 0x6f 0x12 0x01 1 (switched false true) ∷
    answered (switched true true) memory (cleanup linked 0x13 0x01) 0 linked 0x6f 0x13 0x01 1 (switched false true) ∷
    answered (switched true true) to_bottom (cleanup linked 0x14 0x01) 0 linked 0x6f 0x14 0x01 1 (switched true false) ∷
    answered (switched true true) to_top_off (cleanup linked 0x11 0x01) 0 linked 0x6f 0x11 0x01 1 (switched false true) ∷
    answered outlet to_neither (cleanup linked 0x11 0x01) 7 linked 0xef 0x11 0xfb 1 outlet ∷
    answered (switched true true) to_neither (cleanup linked 0x13 0x01) 7 linked 0xef 0x13 0xfb 1 (switched true true) ∷
    []

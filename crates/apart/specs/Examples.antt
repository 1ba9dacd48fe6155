-- Examples of the class: each refusal before the next one in the order 11, 9, 1, 3, 10, 4, 6, 7, 5, rows of 1, 2, 16 and 17, and both kinds in one row.
-- 8 meets none of its neighbours: a broadcast has no sum, and its sender gets no NAK.
use Rattle.std.specs.Prelude.{ℕ, zero, suc, ◌+◌, ◌≡◌, Bool, true, false, not, List, [], ◌∷◌, ◌++◌, map, take}
use Rattle.basis.specs.Choice.{choose}
use Rattle.wire.specs.declared.address.Address.{Address}
use Rattle.load.specs.declared.state.Load.{Load}
use Rattle.module.specs.declared.state.Module.{Module}
use Rattle.module.specs.Module.{fresh_dimmer, fresh_outlet}
use Rattle.module.specs.Change.{with_load}
use Rattle.device.specs.Run.{Call}
use Rattle.class.specs.Class.{ClassStep}
use Rattle.row.specs.Number.{class_number_of}
use Rattle.promises.specs.Bench.{linked, stranger, zeros, memory, room}
use Rattle.promises.specs.Outlets.{group_1, record_of}
use Rattle.apart.specs.Lesson.{Class, tell}

-- seat i has address 00 10 3A and i more
abbrev pub name : ℕ → Address
name i = record { high = 0x00; middle = 0x10; low = 0x3a + i }

unfoldable pub dimmer : ℕ → Module
dimmer i = fresh_dimmer (record { address = name i; category = 0x01; subcategory = 0x0e; firmware = 0x41; revision = 0x00 })

unfoldable pub outlet : ℕ → Module
outlet i = fresh_outlet (record { address = name i; category = 0x02; subcategory = 0x39; firmware = 0x41; revision = 0x00 })

unfoldable pub lit : ℕ → Module
lit i = with_load (Load.Dimmer (record { level = 0x80; ramp = 0x1f; on_level = 0xff })) (dimmer i)

unfoldable pub top_on : ℕ → Module
top_on i = with_load (Load.Outlet (record { top = true; bottom = false })) (outlet i)

-- k seats from seat i on, dimmers and outlets in turn
unfoldable pub seats : ℕ → ℕ → Bool → List Module
seats zero i lamp = []
seats (suc k) i lamp = choose lamp (dimmer i) (outlet i) ∷ seats k (i + 1) (not lamp)

-- the start memory of document 01, once for each seat
unfoldable pub shares : ℕ → List ℕ
shares zero = []
shares (suc k) = memory ++ shares k

unfoldable pub pair : List Module
pair = dimmer 0 ∷ outlet 1 ∷ []

unfoldable pub twins : List Module
twins = dimmer 0 ∷ dimmer 0 ∷ []

unfoldable pub seat : ℕ → List ℕ
seat i = 0x00 ∷ 0x10 ∷ (0x3a + i) ∷ []

unfoldable pub to_seat : ℕ → List ℕ → ℕ → ℕ → ℕ → List ℕ
to_seat i from flags one two = from ++ seat i ++ (flags ∷ one ∷ two ∷ [])

unfoldable pub of_seat : ℕ → List ℕ → ℕ → ℕ → ℕ → List ℕ
of_seat i to flags one two = seat i ++ to ++ (flags ∷ one ∷ two ∷ [])

unfoldable pub called : List ℕ → List ℕ
called from = from ++ group_1 ++ (0xcf ∷ 0x11 ∷ 0x00 ∷ [])

pub record Out : Type 0 where
  pub number : ℕ
  pub sent : List ℕ
  pub read : ℕ
  pub row : List Module
  pub links : List ℕ
  pub room : List ℕ

abbrev pub out_of : ClassStep → Out
out_of t = record { number = class_number_of t.outcome; sent = t.reply; read = t.read; row = t.row; links = t.links; room = t.room }

pub record Example : Type 0 where
  pub start : Class
  pub call : Call
  pub out : Out

-- nothing sent and nothing altered, and no search made
abbrev pub refuses : List Module → List ℕ → List ℕ → ℕ → ℕ → Example
refuses row l message place number =
    record {
      start = record { row = row; links = l };
      call = record { message = message; room = room place };
      out = record { number = number; sent = []; read = 0; row = row; links = l; room = room place };
    }

-- a reply of nine bytes into a room of nine; link memory stays
abbrev pub answers : List Module → List ℕ → List ℕ → ℕ → List ℕ → ℕ → List Module → Example
answers row l message number sent read next =
    record {
      start = record { row = row; links = l };
      call = record { message = message; room = room 9 };
      out = record { number = number; sent = sent; read = read; row = next; links = l; room = sent };
    }

-- a broadcast
abbrev pub hears : List Module → List ℕ → List ℕ → ℕ → ℕ → List Module → Example
hears row l message number read next =
    record {
      start = record { row = row; links = l };
      call = record { message = message; room = room 9 };
      out = record { number = number; sent = []; read = read; row = next; links = l; room = room 9 };
    }

unfoldable pub examples : List Example
examples =
    -- 11: no seat; seventeen; no share
    refuses [] [] (to_seat 0 linked 0x0f 0x0f 0x00) 9 11 ∷
    refuses (seats 17 0 true) (shares 17) (to_seat 0 linked 0x0f 0x0f 0x00) 9 11 ∷
    refuses pair [] (to_seat 0 linked 0x0f 0x0f 0x00) 9 11 ∷
    -- 11 before 9: shares that are unequal, and shares that are no records, of two with one address
    refuses twins (shares 2 ++ zeros 1) [] 9 11 ∷
    refuses twins (zeros 8) [] 9 11 ∷
    -- 9 before 1
    refuses twins (shares 2) [] 9 9 ∷
    -- 1 before 3
    refuses pair (shares 2) (take 8 (to_seat 0 linked 0x2f 0x0f 0x00)) 9 1 ∷
    -- 3 before 10
    refuses pair (shares 2) (to_seat 9 linked 0x2f 0x0f 0x00) 9 3 ∷
    -- 10 before 4: extended 20 00 with no sum, to nobody
    refuses pair (shares 2) (to_seat 9 linked 0x1f 0x20 0x00 ++ zeros 14) 9 10 ∷
    refuses pair (shares 2) (to_seat 2 linked 0x0f 0x0f 0x00) 9 10 ∷
    -- 4 before 6: the same to the second seat, of a stranger
    refuses pair (shares 2) (to_seat 1 stranger 0x1f 0x20 0x00 ++ zeros 14) 9 4 ∷
    -- 6 before 7: 55 is not listed
    answers pair (shares 2) (to_seat 1 stranger 0x0f 0x55 0x00) 6 (of_seat 1 stranger 0xaf 0x55 0xff) 2 pair ∷
    answers pair (shares 2) (to_seat 0 linked 0x0f 0x55 0x00) 7 (of_seat 0 linked 0xaf 0x55 0xfb) 1 pair ∷
    -- a row of one, of two and of sixteen
    answers (dimmer 0 ∷ []) memory (to_seat 0 linked 0x0f 0x0f 0x00) 0 (of_seat 0 linked 0x2f 0x0f 0x00) 0 (dimmer 0 ∷ []) ∷
    answers pair (shares 2) (to_seat 0 linked 0x0f 0x11 0x80) 0 (of_seat 0 linked 0x2f 0x11 0x80) 1 (lit 0 ∷ outlet 1 ∷ []) ∷
    answers pair (shares 2) (to_seat 1 linked 0x0f 0x11 0x80) 0 (of_seat 1 linked 0x2f 0x11 0x80) 1 (dimmer 0 ∷ top_on 1 ∷ []) ∷
    answers (seats 16 0 true) (shares 16) (to_seat 15 linked 0x0f 0x11 0x80) 0 (of_seat 15 linked 0x2f 0x11 0x80) 1 (seats 15 0 true ++ (top_on 15 ∷ [])) ∷
    -- a broadcast: both act; one of them acts; nobody does
    hears pair (shares 2) (called linked) 0 2 (lit 0 ∷ top_on 1 ∷ []) ∷
    hears pair (memory ++ (record_of 0x80 0x03 ++ zeros 8)) (called linked) 0 2 (lit 0 ∷ outlet 1 ∷ []) ∷
    hears pair (shares 2) (called stranger) 8 4 pair ∷
    []

-- 5 is last: an unlisted command whose NAK does not fit; the search was made
unfoldable pub cramped : Example
cramped =
    record {
      start = record { row = pair; links = shares 2 };
      call = record { message = to_seat 0 linked 0x0f 0x55 0x00; room = room 8 };
      out = record { number = 5; sent = []; read = 1; row = pair; links = shares 2; room = room 8 };
    }

abbrev pub AllRight : Type 0
AllRight = map (λ (e : Example). out_of (tell e.start e.call)) (cramped ∷ examples) ≡ map (λ (e : Example). e.out) (cramped ∷ examples)

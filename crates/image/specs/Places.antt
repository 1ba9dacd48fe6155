-- Where an image has what, by the names of src/places.rt; what stands at no place here is nobody's, and is kept.
use Rattle.std.specs.Prelude.{ℕ}

abbrev pub LENGTH : ℕ
LENGTH = 64

-- who it is
abbrev pub KIND : ℕ
KIND = 0

abbrev pub HIGH : ℕ
HIGH = 1

abbrev pub MIDDLE : ℕ
MIDDLE = 2

abbrev pub LOW : ℕ
LOW = 3

abbrev pub CATEGORY : ℕ
CATEGORY = 4

abbrev pub SUBCATEGORY : ℕ
SUBCATEGORY = 5

abbrev pub FIRMWARE : ℕ
FIRMWARE = 6

abbrev pub REVISION : ℕ
REVISION = 7

-- what a message may alter
abbrev pub FLAGS : ℕ
FLAGS = 8

abbrev pub LED : ℕ
LED = 11

abbrev pub HOUSE : ℕ
HOUSE = 12

abbrev pub UNIT : ℕ
UNIT = 13

abbrev pub DELTA : ℕ
DELTA = 14

-- the load of a dimmer
abbrev pub LEVEL : ℕ
LEVEL = 16

abbrev pub RAMP : ℕ
RAMP = 17

abbrev pub ON_LEVEL : ℕ
ON_LEVEL = 18

-- the load of an outlet
abbrev pub TOP : ℕ
TOP = 16

abbrev pub BOTTOM : ℕ
BOTTOM = 17

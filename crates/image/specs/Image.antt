-- A module as bytes: every kind has an image of one length, and each value its place.
use Rattle.std.specs.Prelude.{ℕ, Option, None, Some, Bool, true, false, ◌&&◌, List, [], ◌∷◌, eqb, leb, length, get_or, set}
use Rattle.basis.specs.Choice.{choose}
use Rattle.basis.specs.Table.{Row, among, ◌⇒◌}
use Rattle.load.specs.declared.state.Load.{Load}
use Rattle.module.specs.declared.state.Module.{Module}
use Rattle.module.specs.Module.{kind_of}
use Rattle.image.specs.Places.{LENGTH, KIND, HIGH, MIDDLE, LOW, CATEGORY, SUBCATEGORY, FIRMWARE, REVISION}
use Rattle.image.specs.Places.{FLAGS, LED, HOUSE, UNIT, DELTA, LEVEL, RAMP, ON_LEVEL, TOP, BOTTOM}

-- a socket's byte: 00 off, 01 on, and no other
abbrev pub is_socket : ℕ → Bool
is_socket x = leb x 0x01

-- the kinds that there are, 01 a dimmer and 02 an outlet, and whether the bytes of the load can be that kind's
abbrev pub kinds : List ℕ → List (Row Bool)
kinds s = 0x01 ⇒ true ∷ 0x02 ⇒ (is_socket (get_or s TOP 0) && is_socket (get_or s BOTTOM 0)) ∷ []

-- of the one length, and of one of these kinds
unfoldable pub is_image : List ℕ → Bool
is_image s = eqb (length s) LENGTH && among (get_or s KIND 0) false (kinds s)

-- ---- what an image holds

abbrev pub is_on : ℕ → Bool
is_on x = eqb x 0x01

-- an outlet's load where the kind is 02, and else a dimmer's, as there is no third
unfoldable pub load_of : List ℕ → Load
load_of s =
    choose (eqb (get_or s KIND 0) 0x02)
    (Load.Outlet (record { top = is_on (get_or s TOP 0); bottom = is_on (get_or s BOTTOM 0) }))
    (Load.Dimmer (record { level = get_or s LEVEL 0; ramp = get_or s RAMP 0; on_level = get_or s ON_LEVEL 0 }))

abbrev pub module_of : List ℕ → Module
module_of s =
    record {
      identity = record {
        address = record { high = get_or s HIGH 0; middle = get_or s MIDDLE 0; low = get_or s LOW 0 };
        category = get_or s CATEGORY 0;
        subcategory = get_or s SUBCATEGORY 0;
        firmware = get_or s FIRMWARE 0;
        revision = get_or s REVISION 0;
      };
      flags = get_or s FLAGS 0;
      led = get_or s LED 0;
      house = get_or s HOUSE 0;
      unit = get_or s UNIT 0;
      delta = get_or s DELTA 0;
      load = load_of s;
    }

-- none where it is no image
unfoldable pub held_in : List ℕ → Option Module
held_in s = choose (is_image s) (Some (module_of s)) None

-- ---- what is stored in it

unfoldable pub byte_of : Bool → ℕ
byte_of on = choose on 0x01 0x00

abbrev pub load_values : Load → List (Row ℕ)
load_values (Load.Dimmer lamp) = LEVEL ⇒ lamp.level ∷ RAMP ⇒ lamp.ramp ∷ ON_LEVEL ⇒ lamp.on_level ∷ []
load_values (Load.Outlet sockets) = TOP ⇒ byte_of sockets.top ∷ BOTTOM ⇒ byte_of sockets.bottom ∷ []

-- what a message may alter, each beside its place
abbrev pub values : Module → List (Row ℕ)
values m = FLAGS ⇒ m.flags ∷ LED ⇒ m.led ∷ HOUSE ⇒ m.house ∷ UNIT ⇒ m.unit ∷ DELTA ⇒ m.delta ∷ load_values m.load

-- values laid into their places, and every other byte kept
abbrev pub with_values : List (Row ℕ) → List ℕ → List ℕ
with_values [] s = s
with_values (r ∷ rows) s = with_values rows (set s r.key r.value)

-- an image in which a module was stored: kind and identity are the image's own, and so is what its kind does not use
abbrev pub stored_in : List ℕ → Module → List ℕ
stored_in s m = with_values (values m) s

-- a module of the image's own kind alone
unfoldable pub stored_if_own : List ℕ → Module → List ℕ
stored_if_own s m = choose (is_image s && eqb (kind_of m.load) (get_or s KIND 0)) (stored_in s m) s

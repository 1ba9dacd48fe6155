-- Message after message to the class, and what of it is one seat's (document 02, "One bench for a class").
use Rattle.std.specs.Prelude.{ℕ, zero, suc, ◌+◌, ◌/◌, ◌≡◌, Bool, true, false, ◌&&◌, ◌||◌, not, List, [], ◌∷◌, length}
use Rattle.wire.specs.declared.address.Address.{Address}
use Rattle.wire.specs.Bytes.{to_of, equals, is_whole}
use Rattle.wire.specs.Kinds.{is_broadcast, is_unheard}
use Rattle.module.specs.declared.state.Module.{Module}
use Rattle.device.specs.Run.{Call, State}
use Rattle.row.specs.Row.{is_row_fit, is_doubled}
use Rattle.class.specs.Seat.{seat_at, name_at, share_at}
use Rattle.class.specs.Class.{ClassStep, class_of}

-- a row with its link memory
pub record Class : Type 0 where
  pub row : List Module
  pub links : List ℕ

-- neither 11 nor 9 applies
pub record Seated (c : Class) : Type 0 where
  pub fit : is_row_fit (length c.row) (length c.links) ≡ true
  pub apart : is_doubled (name_at c.row) (length c.row) ≡ false

abbrev pub tell : Class → Call → ClassStep
tell c x = class_of c.row c.links x.message x.room

abbrev pub leaves : ClassStep → Class
leaves t = record { row = t.row; links = t.links }

-- the class that all calls leave
unfoldable pub after_all : Class → List Call → Class
after_all c [] = c
after_all c (x ∷ xs) = after_all (leaves (tell c x)) xs

-- seat i's module and its share, alone
abbrev pub width : Class → ℕ
width c = length c.links / length c.row

abbrev pub alone : Class → ℕ → State
alone c i = record { device = seat_at c.row i; links = share_at (width c) i c.links }

-- a message for whoever has that address: direct or cleanup with To the address, or a broadcast. A malformed one is for nobody
abbrev pub is_for : Address → List ℕ → Bool
is_for a s = is_whole s && not (is_unheard s) && (is_broadcast s || equals (to_of s) a)

-- over k seats from seat i on: the sum, and whether it holds of any
unfoldable pub sum_from : (ℕ → ℕ) → ℕ → ℕ → ℕ
sum_from f zero i = 0
sum_from f (suc k) i = f i + sum_from f k (i + 1)

unfoldable pub any_from : (ℕ → Bool) → ℕ → ℕ → Bool
any_from P zero i = false
any_from P (suc k) i = P i || any_from P k (i + 1)

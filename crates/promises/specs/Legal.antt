-- Demand 2's last sentence: the legal direct commands, each with its effect and its reply, stated on their own. These rows every kind has.
use Rattle.std.specs.Prelude.{ℕ, zero, suc, ◌+◌, ◌-◌, ◌*◌, ◌/◌, ◌%◌, ◌≤◌, ◌<◌, ◌≡◌, true, List, [], ◌∷◌, ◌++◌, take, drop}
use Rattle.basis.specs.Flags.{set_bit, clear_bit}
use Rattle.basis.specs.Laid.{laid}
use Rattle.wire.specs.Bytes.{from_of, hops_of, command1_of, command2_of, data_at}
use Rattle.wire.specs.Asked.{Short, Long, Asks}
use Rattle.wire.specs.Kinds.{is_direct}
use Rattle.wire.specs.Reading.{well_formed}
use Rattle.links.specs.Record.{is_fit, records, record_at}
use Rattle.links.specs.Live.{Linked}
use Rattle.links.specs.Write.{written}
use Rattle.reply.specs.declared.due.ReplyType.{ReplyType}
use Rattle.reply.specs.Message.{standard, extended}
use Rattle.reply.specs.Positions.{SentFrom}
use Rattle.results.specs.Number.{number_of}
use Rattle.load.specs.declared.entry.Properties.{Properties}
use Rattle.module.specs.declared.state.Module.{Module}
use Rattle.module.specs.Change.{with_flags, with_led, with_x10, next_delta}
use Rattle.device.specs.Step.{Step}

-- what a command brings about: the module and link memory afterwards, and the reply
pub record Effect : Type 0 where
  pub next : Module
  pub links : List ℕ
  pub reply : List ℕ

-- by the message's bytes
module _ (s : List ℕ) where
  -- Data 3 and 4 name record k of link memory l: by 0FFF minus 8k, and record 0 by 0000 too
  pub data Names (l : List ℕ) : ℕ → Type 0 where
    by_place : (k : ℕ) → k < records l → data_at s 3 * 256 + data_at s 4 + 8 * k ≡ 0x0fff → Names l k
    by_zero : 0 < records l → data_at s 3 ≡ 0x00 → data_at s 4 ≡ 0x00 → Names l 0

-- replies of the module m
module _ (m : Module) (s : List ℕ) where
  abbrev pub ack : ℕ → ℕ → List ℕ
  ack a b = standard m.identity.address (from_of s) ReplyType.Ack (hops_of s) a b

  -- both commands repeated
  abbrev pub repeated : List ℕ
  repeated = ack (command1_of s) (command2_of s)

  -- category, subcategory and firmware stand in the place of an address
  abbrev pub id_broadcast : List ℕ
  id_broadcast =
      standard m.identity.address (record { high = m.identity.category; middle = m.identity.subcategory; low = m.identity.firmware })
      ReplyType.IdBroadcast (hops_of s) 0x01 m.identity.revision

  -- Data 1 as sent, 01, 00, 00, house, unit, ramp, on level, LED, 00, 01, 00, 00, 00
  abbrev pub properties : Properties → List ℕ
  properties p =
      extended m.identity.address (from_of s) (hops_of s) 0x2e
      (data_at s 1 ∷ 0x01 ∷ 0x00 ∷ 0x00 ∷ m.house ∷ m.unit ∷ p.ramp ∷ p.on_level ∷ m.led ∷ 0x00 ∷ 0x01 ∷ 0x00 ∷ 0x00 ∷ 0x00 ∷ [])

-- records of link memory l
module _ (m : Module) (l s : List ℕ) where
  -- the address that names record k
  abbrev name : ℕ → ℕ
  name k = 0x0fff - 8 * k

  -- the message that shows it: Data 1 as sent, 01, its address, 00, its eight bytes, 00
  abbrev pub shows : ℕ → List ℕ
  shows k =
      extended m.identity.address (from_of s) (hops_of s) 0x2f
      (data_at s 1 ∷ 0x01 ∷ name k / 256 ∷ name k % 256 ∷ 0x00 ∷ (record_at l k ++ (0x00 ∷ [])))

  -- n of them upward from k, each directly after the one before it
  unfoldable pub upward : ℕ → ℕ → List ℕ
  upward zero k = []
  upward (suc n) k = shows k ++ upward n (k + 1)

-- the module becomes another, and the ACK repeats both commands
abbrev pub becomes : Module → List ℕ → List ℕ → Module → Effect
becomes m l s next = record { next = next; links = l; reply = repeated m s }

-- nothing changes, and this is sent
abbrev pub sends : Module → List ℕ → List ℕ → Effect
sends m l bytes = record { next = m; links = l; reply = bytes }

module _ (m : Module) (l s : List ℕ) where
  abbrev to : Module → Effect
  to next = becomes m l s next

  abbrev tells : List ℕ → Effect
  tells bytes = sends m l bytes

  pub data Shared : Effect → Type 0 where
    ping : Short s 0x0f → Shared (to m)
    id-request : Short s 0x10 → Shared (tells (repeated m s ++ id_broadcast m s))
    engine-version : Short s 0x0d → Shared (tells (ack m s (command1_of s) 0x02))
    flags : Short s 0x1f → command2_of s ≡ 0x00 → Shared (tells (ack m s (command1_of s) m.flags))
    delta : Short s 0x1f → command2_of s ≡ 0x01 → Shared (tells (ack m s (command1_of s) m.delta))
    beep : Short s 0x30 → Shared (to m)
    set-flag : Long s 0x20 → (b : ℕ) → b ≤ 7 → command2_of s ≡ 2 * b → Shared (to (with_flags (set_bit b m.flags) m))
    clear-flag : Long s 0x20 → (b : ℕ) → b ≤ 7 → command2_of s ≡ 2 * b + 1 → Shared (to (with_flags (clear_bit b m.flags) m))
    set-x10 : Asks s 0x2e 0x04 → Shared (to (with_x10 (data_at s 3) (data_at s 4) m))
    set-led : Asks s 0x2e 0x07 → 0x11 ≤ data_at s 3 → data_at s 3 ≤ 0x7f → Shared (to (with_led (data_at s 3) m))
    get-database : Asks s 0x2f 0x00 → (k : ℕ) → Names s l k → (n : ℕ) → SentFrom l k (data_at s 5) n
        → Shared (tells (repeated m s ++ upward m l s n k))
    set-database : Asks s 0x2f 0x02 → (k : ℕ) → Names s l k → 1 ≤ data_at s 5 → data_at s 5 ≤ 8
        → Shared (record { next = next_delta m; links = written l k (take (data_at s 5) (drop 14 s)); reply = repeated m s })

-- a well-formed direct message of a linked sender, to a module with fit link memory
pub record FromLinked (m : Module) (l s : List ℕ) : Type 0 where
  pub is-fit : is_fit l ≡ true
  pub well-formed : well_formed s m.identity.address ≡ true
  pub is-direct : is_direct s ≡ true
  pub linked : Linked l (from_of s)

-- a step ends with result n and this effect, and the room holds the reply and its old rest
pub record Ends (room : List ℕ) (n : ℕ) (e : Effect) (t : Step) : Type 0 where
  pub result : number_of t.outcome ≡ n
  pub next : t.next ≡ e.next
  pub links : t.links ≡ e.links
  pub reply : t.reply ≡ e.reply
  pub room_after : t.room ≡ laid e.reply room

-- the effect was taken: result 0, and all that it says
abbrev pub Taken : List ℕ → Effect → Step → Type 0
Taken room e t = Ends room 0 e t

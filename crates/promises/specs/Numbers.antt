-- "Result numbers": the table, a line a number, and the order 2, 1, 3, 4, 8, 6, 7, with 5 last.
use Rattle.std.specs.Prelude.{ℕ, ◌%◌, ◌≤◌, ◌<◌, ◌≡◌, true, false, List, [], ◌↔◌, length}
use Rattle.wire.specs.Bytes.{from_of, to_of, command2_of, is_extended, equals}
use Rattle.wire.specs.Kinds.{is_direct, is_cleanup, is_broadcast}
use Rattle.wire.specs.Checksum.{is_sum_wrong}
use Rattle.links.specs.Record.{record_at, link_of}
use Rattle.results.specs.Number.{number_of}
use Rattle.module.specs.declared.state.Module.{Module}
use Rattle.device.specs.Step.{step_of}
use Rattle.promises.specs.Room.{due_to}
use Rattle.promises.specs.Demand1.{nak_of}
use Rattle.promises.specs.Demand3.{Stranger, ping_or_id}
use Rattle.promises.specs.Legal.{Effect, sends, Ends}
use Rattle.promises.specs.LegalAny.{Legal}
use Rattle.promises.specs.Responders.{FirstResponder, NoResponder}
use Rattle.wire.specs.Asked.{GroupCommand1}
use Rattle.promises.specs.Groups.{GroupLegal, NoRow, broadcast_effect, cleanup_effect, Unconcerned}

-- 2: link memory length 0, over 2,048, or no multiple of 8
pub data When2 (l : List ℕ) : Type 0 where
  empty : length l ≡ 0 → When2 l
  too_long : 2048 < length l → When2 l
  no-multiple : ¬ (length l % 8 ≡ 0) → When2 l

-- 1: length not 9 or 23, or flags bit 4 disagrees with it
pub data When1 (s : List ℕ) : Type 0 where
  other_length : ¬ (length s ≡ 9) → ¬ (length s ≡ 23) → When1 s
  short-but-set : length s ≡ 9 → is_extended s ≡ true → When1 s
  long-but-clear : length s ≡ 23 → is_extended s ≡ false → When1 s

-- 3: other type; extended but not direct; direct or cleanup with To not ours
pub data When3 (m : Module) (s : List ℕ) : Type 0 where
  other-type : is_direct s ≡ false → is_cleanup s ≡ false → is_broadcast s ≡ false → When3 m s
  long-not-direct : is_extended s ≡ true → is_direct s ≡ false → When3 m s
  direct-astray : is_direct s ≡ true → equals (to_of s) m.identity.address ≡ false → When3 m s
  cleanup-astray : is_cleanup s ≡ true → equals (to_of s) m.identity.address ≡ false → When3 m s

-- 4: checked checksum wrong
abbrev pub When4 : List ℕ → Type 0
When4 s = is_sum_wrong s ≡ true

-- 8: group broadcast that concerns us not
abbrev pub When8 : Module → List ℕ → List ℕ → Type 0
When8 m l s = (is_broadcast s ≡ true) × Unconcerned m l s

-- 6: sender not linked (cleanup: no responder record)
pub data When6 (l s : List ℕ) : Type 0 where
  not-linked : is_direct s ≡ true → ping_or_id s ≡ false → Stranger l s → When6 l s
  no_record : is_cleanup s ≡ true → NoResponder l (from_of s) (command2_of s) → When6 l s

-- 7: command or a number in it not listed here
pub data When7 (m : Module) (l s : List ℕ) : Type 0 where
  not_listed : is_direct s ≡ true → ((e : Effect) → ¬ Legal m l s e) → When7 m l s
  no-group-command : is_cleanup s ≡ true → ¬ GroupCommand1 s → When7 m l s
  -- the first responder record fits no row of the module's kind
  no-group-row : (k : ℕ) → is_cleanup s ≡ true → FirstResponder l (from_of s) (command2_of s) k → NoRow m s (link_of (record_at l k)) → When7 m l s

-- 0: carried out, as the tables of direct commands and of groups say
pub data When0 (m : Module) (l s : List ℕ) : Effect → Type 0 where
  direct : (e : Effect) → is_direct s ≡ true → Legal m l s e → When0 m l s e
  cleanup : (k : ℕ) (next : Module) → is_cleanup s ≡ true
      → FirstResponder l (from_of s) (command2_of s) k → GroupLegal m s (link_of (record_at l k)) next → When0 m l s (cleanup_effect m l s next)
  broadcast : (k : ℕ) (next : Module) → is_broadcast s ≡ true
      → FirstResponder l (from_of s) (to_of s).low k → GroupLegal m s (link_of (record_at l k)) next → When0 m l s (broadcast_effect l next)

module _ (m : Module) (l s : List ℕ) where
  -- none of 2, 1, 3 and 4: link memory is fit and the message well-formed
  pub record Sound : Type 0 where
    pub fit : ¬ When2 l
    pub whole : ¬ When1 s
    pub ours : ¬ When3 m s
    pub right : ¬ When4 s

  -- what a message that is carried out brings about
  pub record IsCarriedOut : Type 0 where
    pub effect : Effect
    pub row : When0 m l s effect

  -- the table but for 5: number, when, reply, module and link memory
  pub data Line : ℕ → Effect → Type 0 where
    two : When2 l → Line 2 (sends m l [])
    one : ¬ When2 l → When1 s → Line 1 (sends m l [])
    three : ¬ When2 l → ¬ When1 s → When3 m s → Line 3 (sends m l [])
    four : ¬ When2 l → ¬ When1 s → ¬ When3 m s → When4 s → Line 4 (sends m l [])
    eight : Sound → When8 m l s → Line 8 (sends m l [])
    six : Sound → ¬ When8 m l s → When6 l s → Line 6 (sends m l (nak_of m s 0xff))
    seven : Sound → ¬ When8 m l s → ¬ When6 l s → When7 m l s → Line 7 (sends m l (nak_of m s 0xfb))
    zero : Sound → ¬ When8 m l s → ¬ When6 l s → ¬ When7 m l s → (e : Effect) → When0 m l s e → Line 0 e

  module _ (room : List ℕ) where
    -- 5 last: the room is shorter than the reply actually due, NAKs included; else the line's number
    pub data Given : ℕ → Type 0 where
      fits : (n : ℕ) (e : Effect) → Line n e → length e.reply ≤ length room → Given n
      five : (n : ℕ) (e : Effect) → Line n e → length room < length e.reply → Given 5

-- the number is the one that is given so, and no other
abbrev pub NumbersGiven : Type 0
NumbersGiven = (m : Module) (l s room : List ℕ) (n : ℕ) → (number_of (step_of m l s room).outcome ≡ n) ↔ Given m l s room n

-- and none is given in any other case
abbrev pub NoOther : Type 0
NoOther = (m : Module) (l s room : List ℕ) (n : ℕ) → Given m l s room n → n ≤ 8

-- the other columns: the reply due is the line's; where it fits, all is as the line says; where not, nothing is sent or altered
pub record AsTheLine (m : Module) (l s room : List ℕ) (n : ℕ) (e : Effect) : Type 0 where
  pub due : due_to m l s ≡ e.reply
  pub fitting : length e.reply ≤ length room → Ends room n e (step_of m l s room)
  pub short : length room < length e.reply → Ends room 5 (sends m l []) (step_of m l s room)

abbrev pub LinesHold : Type 0
LinesHold = (m : Module) (l s room : List ℕ) (n : ℕ) (e : Effect) → Line m l s n e → AsTheLine m l s room n e

-- a message has one line
abbrev pub OneLine : Type 0
OneLine = (m : Module) (l s : List ℕ) (n k : ℕ) (e f : Effect) → Line m l s n e → Line m l s k f → (n ≡ k) × (e ≡ f)

-- where no other line applies, the tables say what is carried out
abbrev pub ElseCarriedOut : Type 0
ElseCarriedOut = (m : Module) (l s : List ℕ) → Sound m l s → ¬ When8 m l s → ¬ When6 l s → ¬ When7 m l s → IsCarriedOut m l s

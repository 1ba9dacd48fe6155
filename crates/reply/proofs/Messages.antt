-- A reply is whole messages with fresh hops, each directly after the one before it.
use Prim.Native.Nat.{ℕ, zero, suc, ◌+◌, ◌*◌, ◌/◌, ◌%◌, ◌<◌}
use mathlib.Core.Path.{◌≡◌, refl, ◌∙◌, ap, subst}
use mathlib.Core.Bool.{true, false}
use mathlib.Core.List.{List, [], ◌∷◌, ◌++◌, flatten}
use native.Mathlib.Omega.{arith}
use lib.Dec.{eqb}
use lib.ListN.{length, get_or}
use Rattle.basis.specs.Choice.{choose}
use Rattle.basis.specs.Numbers.{is_set}
use Rattle.wire.specs.declared.address.Address.{Address}
use Rattle.wire.specs.Bytes.{flags_of, is_whole}
use Rattle.reply.specs.declared.due.ReplyType.{ReplyType}
use Rattle.reply.specs.declared.due.Head.{Head}
use Rattle.reply.specs.declared.due.Due.{Due}
use Rattle.reply.specs.Message.{type_bits, reply_flags, standard, extended, head_of, data_bytes}
use Rattle.reply.specs.Records.{record_message, records_from, count_sent}
use Rattle.reply.specs.Reply.{reply_of}

-- its records, one message each
abbrev record_messages : Address → Address → ℕ → ℕ → List ℕ → ℕ → ℕ → List (List ℕ)
record_messages own to hops data1 l zero k = []
record_messages own to hops data1 l (suc n) k = record_message own to hops data1 l k ∷ record_messages own to hops data1 l n (k + 1)

abbrev pub messages_of : Address → List ℕ → Due → List (List ℕ)
messages_of own l Due.Nothing = []
messages_of own l (Due.Alone h) = head_of own h ∷ []
messages_of own l (Due.WithId h id revision) = head_of own h ∷ standard own id ReplyType.IdBroadcast h.hops 0x01 revision ∷ []
messages_of own l (Due.WithProperties h d) = head_of own h ∷ extended own h.to h.hops 0x2e (data_bytes d) ∷ []
messages_of own l (Due.WithRecords h a) = head_of own h ∷ record_messages own h.to h.hops a.data1 l (count_sent l a.first a.most) a.first

records_joined : (own to : Address) (hops data1 : ℕ) (l : List ℕ) (n k : ℕ) → records_from own to hops data1 l n k ≡ flatten (record_messages own to hops data1 l n k)
unfolding records_from flatten
records_joined own to hops data1 l zero k = refl
records_joined own to hops data1 l (suc n) k = ap (λ (z : List ℕ). record_message own to hops data1 l k ++ z) (records_joined own to hops data1 l n (k + 1))

pub joined : (own : Address) (l : List ℕ) (due : Due) → reply_of own l due ≡ flatten (messages_of own l due)
unfolding flatten
joined own l Due.Nothing = refl
joined own l (Due.Alone h) = refl
joined own l (Due.WithId h id revision) = refl
joined own l (Due.WithProperties h d) = refl
joined own l (Due.WithRecords h a) = ap (λ (z : List ℕ). head_of own h ++ z) (records_joined own h.to h.hops a.data1 l (count_sent l a.first a.most) a.first)

-- the message that it begins with is a standard one, flags bit 4 is clear, and has these hops
pub record Opens (hops : ℕ) (h : Head) : Type 0 where
  pub short : is_set 4 (type_bits h.reply_type) ≡ false
  pub fresh : h.hops ≡ hops

abbrev pub Begins : ℕ → Due → Type 0
Begins hops Due.Nothing = Unit {0}
Begins hops (Due.Alone h) = Opens hops h
Begins hops (Due.WithId h id revision) = Opens hops h
Begins hops (Due.WithProperties h d) = Opens hops h
Begins hops (Due.WithRecords h a) = Opens hops h

-- hops are added below the type bits and the extended bit
sixteens : (type : ReplyType) → type_bits type ≡ 16 * (type_bits type / 16)
sixteens ReplyType.Ack = refl
sixteens ReplyType.Nak = refl
sixteens ReplyType.CleanupAck = refl
sixteens ReplyType.CleanupNak = refl
sixteens ReplyType.IdBroadcast = refl
sixteens ReplyType.Data = refl

by_type : (type : ReplyType) (hops : ℕ) → is_set 4 (reply_flags type hops) ≡ is_set 4 (type_bits type)
by_type type hops =
    let above : reply_flags type hops / 16 ≡ type_bits type / 16 = omega (arith, sixteens type) in
    ap (λ (x : ℕ). eqb (x % 2) 1) above

-- a message of a reply: whole, and with hops left, bits 3 and 2, and largest, bits 1 and 0, of a request that has these
pub record Sound (hops : ℕ) (message : List ℕ) : Type 0 where
  pub whole : is_whole message ≡ true
  pub left : flags_of message / 4 % 4 ≡ hops % 4
  pub largest : flags_of message % 4 ≡ hops % 4

sound : (type : ReplyType) (hops : ℕ) (message : List ℕ) → flags_of message ≡ reply_flags type hops → is_whole message ≡ true → Sound hops message
sound type hops message f w = record { whole = w; left = ap (λ (x : ℕ). x / 4 % 4) f ∙ left_by; largest = omega (arith, f, sixteens type) }
  where
    fourth : reply_flags type hops / 4 ≡ 4 * (type_bits type / 16) + hops % 4
    fourth = omega (arith, sixteens type)

    below : (b q : ℕ) → q < 4 → (4 * b + q) % 4 ≡ q
    below b q h = omega arith

    left_by : reply_flags type hops / 4 % 4 ≡ hops % 4
    left_by = ap (λ (x : ℕ). x % 4) fourth ∙ below (type_bits type / 16) (hops % 4) (omega arith)

standard_sound : (from to : Address) (type : ReplyType) (hops one two : ℕ) → is_set 4 (type_bits type) ≡ false → Sound hops (standard from to type hops one two)
unfolding choose
standard_sound from to type hops one two e = sound type hops _ refl (rw (by_type type hops ∙ e))

head_sound : (own : Address) (hops : ℕ) (h : Head) → Opens hops h → Sound hops (head_of own h)
head_sound own hops h o =
    subst (λ (n : ℕ). Sound n (head_of own h)) o.fresh (standard_sound own h.to h.reply_type h.hops h.command1 h.command2 o.short)

extended_sound : (from to : Address) (hops one : ℕ) (bytes : List ℕ) → length bytes ≡ 14 → Sound hops (extended from to hops one bytes)
unfolding choose
extended_sound from to hops one bytes e = sound ReplyType.Data hops _ refl (rw (by_type ReplyType.Data hops, e))

-- each of them is so
abbrev pub Each : ℕ → List (List ℕ) → Type 0
Each hops ms = (i : ℕ) → i < length ms → Sound hops (get_or ms i [])

pub none : (hops : ℕ) → Each hops []
none hops i h = absurd (omega arith)

next : (hops : ℕ) (m : List ℕ) (ms : List (List ℕ)) → Sound hops m → Each hops ms → Each hops (m ∷ ms)
next hops m ms w f zero h = w
next hops m ms w f (suc i) h = f i (omega arith)

records_sound : (own to : Address) (hops data1 : ℕ) (l : List ℕ) (n k : ℕ) → Each hops (record_messages own to hops data1 l n k)
records_sound own to hops data1 l zero k = none hops
records_sound own to hops data1 l (suc n) k =
    next hops _ (record_messages own to hops data1 l n (k + 1)) (extended_sound own to hops 0x2f _ refl) (records_sound own to hops data1 l n (k + 1))

-- behind its head
pub each_sound : (own : Address) (l : List ℕ) (hops : ℕ) (due : Due) → Begins hops due → Each hops (messages_of own l due)
each_sound own l hops due e = go due e
  where
    behind : (h : Head) (ms : List (List ℕ)) → Opens hops h → Each h.hops ms → Each hops (head_of own h ∷ ms)
    behind h ms o f = next hops _ ms (head_sound own hops h o) (subst (λ (n : ℕ). Each n ms) o.fresh f)

    alone : (n : ℕ) (m : List ℕ) → Sound n m → Each n (m ∷ [])
    alone n m w = next n m [] w (none n)

    go : (due : Due) → Begins hops due → Each hops (messages_of own l due)
    go Due.Nothing o = none hops
    go (Due.Alone h) o = behind h [] o (none h.hops)
    go (Due.WithId h id revision) o = behind h (_ ∷ []) o (alone h.hops _ (standard_sound own id ReplyType.IdBroadcast h.hops 0x01 revision refl))
    go (Due.WithProperties h d) o = behind h (_ ∷ []) o (alone h.hops _ (extended_sound own h.to h.hops 0x2e (data_bytes d) refl))
    go (Due.WithRecords h a) o =
        let n : ℕ = count_sent l a.first a.most in
        behind h (record_messages own h.to h.hops a.data1 l n a.first) o (records_sound own h.to h.hops a.data1 l n a.first)

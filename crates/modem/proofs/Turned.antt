-- What a frame comes to, by its parts.
use Prim.Native.Nat.{ℕ, min, ◌-◌, ◌*◌, ◌≤◌, ◌<◌}
use mathlib.Core.Path.{◌≡◌, refl, sym, ◌∙◌, ap}
use mathlib.Core.Bool.{Bool, true, false}
use mathlib.Core.List.{List, [], ◌∷◌}
use native.Mathlib.Omega.{arith}
use lib.ListN.{length, take, drop, length-append, length-take}
use lib.Seq.{take-append_seam}
use borrow.Author.Tests.{lt-ltb, le-ltb, ltb-true, ltb-false}
use borrow.Rule.Slice.PartMut.{mid_of}
use Rattle.std.specs.Prelude.{None, Some}
use Rattle.std.proofs.lemmas.Option.{none-some, same_Some}
use Rattle.basis.specs.Choice.{choose}
use Rattle.basis.specs.Laid.{laid}
use Rattle.basis.proofs.Laid.{rest}
use Rattle.seating.specs.declared.heed.Seating.{Seating}
use Rattle.seating.specs.Heed.{Heed, heed_of}
use Rattle.seating.proofs.Laws.{heed_replied}
use Rattle.modem.specs.declared.serve.Served.{Served}
use Rattle.modem.specs.Frames.{framed}
use Rattle.modem.specs.Serve.{heeded_of, done_of, ample, turn_of, ServePromise}

-- the message behind the first two bytes; none where there are no more
pub message : (s : List ℕ) → mid_of (min (length s) 2) (length s - min (length s) 2) s ≡ drop 2 s
message s = rest (min (length s) 2) s ∙ go s
  where
    go : (s : List ℕ) → drop (min (length s) 2) s ≡ drop 2 s
    go [] = refl
    go (x ∷ []) = refl
    go (x ∷ y ∷ s) = let e : min (length (x ∷ y ∷ s)) 2 ≡ 2 = omega arith in rw e

-- what a message leaves in the room is its reply
module _ (s : Seating) (l message room : List ℕ) where
  abbrev heard : Heed
  heard = heed_of s l message room

  pub start : take (length heard.reply) heard.room ≡ heard.reply
  start = (heed_replied s l message room).start

  pub as_long : length (take (length heard.reply) heard.room) ≡ length heard.reply
  as_long = ap length start

  pub stands : length heard.reply ≤ length heard.room
  stands = omega (arith, as_long, length-take (length heard.reply) heard.room)

-- with room enough the message is heeded, and else nothing
module _ (s : Seating) (l frame room out : List ℕ) where
  pub heeded : 2 * length room < length out → turn_of s l frame room out ≡ done_of s out (heed_of s l (drop 2 frame) room)
  unfolding turn_of choose
  heeded h = rw (lt-ltb (2 * length room) (length out) h)

  pub cramped : length out ≤ 2 * length room → turn_of s l frame room out ≡ record { served = None; links = l; room = room; out = out }
  unfolding turn_of choose
  cramped h = rw (le-ltb (2 * length room) (length out) h)

-- a frame that was served: what its message leaves, with the reply in the room and its frames in `out`
pub record Shows (s : Seating) (l frame room out : List ℕ) (r : Served) (links room' out' : List ℕ) : Type 0 where
  pub enough : 2 * length room < length out
  pub answer : r.heeded ≡ heeded_of s (heed_of s l (drop 2 frame) room)
  pub memory : links ≡ (heed_of s l (drop 2 frame) room).links
  pub reply : take r.heeded.length room' ≡ (heed_of s l (drop 2 frame) room).reply
  pub frames : take r.sent out' ≡ framed (heed_of s l (drop 2 frame) room).reply
  pub stands : r.heeded.length ≤ length room'
  pub lies : r.sent ≤ length out'

module _ (s : Seating) (l frame room out : List ℕ) (links room' out' : List ℕ) where
  abbrev t : Heed
  t = heed_of s l (drop 2 frame) room

  pub shows : (r : Served) → ServePromise s l frame room out (Some r) links room' out' → Shows s l frame room out r links room' out'
  unfolding turn_of choose
  shows r p = go (ample room out) refl
    where
      go : (b : Bool) → ample room out ≡ b → Shows s l frame room out r links room' out'
      go true q =
          let e : r ≡ record { heeded = heeded_of s t; sent = length (framed t.reply) } = same_Some _ _ (rw q at p.served) in
          let o : out' ≡ laid (framed t.reply) out = rw q at p.out-after in
          let after : room' ≡ t.room = rw q at p.room_after in
          let long : r.heeded.length ≡ length t.reply = ap (λ (z : Served). z.heeded.length) e in
          let sent : r.sent ≡ length (framed t.reply) = ap (λ (z : Served). z.sent) e in
          let start = (heed_replied s l (drop 2 frame) room).start in
          let k : length t.reply ≤ length t.room = omega (arith, ap length start, length-take (length t.reply) t.room) in
          record {
            enough = ltb-true (2 * length room) (length out) q;
            answer = ap (λ (z : Served). z.heeded) e;
            memory = rw q at p.links-after;
            reply = (λ i. take (long i) (after i)) ∙ start;
            frames = (λ i. take (sent i) (o i)) ∙ take-append_seam (framed t.reply) _;
            stands = rw (long, after) k;
            lies = rw o (simp length-append (omega (arith, sent)));
          }
      go false q = absurd (none-some r (sym (rw q at p.served)))

  -- one that was not: `out` is too short, and nothing is altered
  pub refused : ServePromise s l frame room out None links room' out' → (length out ≤ 2 * length room) × (links ≡ l)
  unfolding turn_of choose
  refused p = go (ample room out) refl
    where
      go : (b : Bool) → ample room out ≡ b → (length out ≤ 2 * length room) × (links ≡ l)
      go true q = absurd (none-some _ (rw q at p.served))
      go false q = (ltb-false (2 * length room) (length out) q, rw q at p.links-after)

-- step by step
pub ruleset turn_steps = (message, start, as_long, stands, heeded, cramped)

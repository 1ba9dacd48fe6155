-- A room matters by its length alone, so one room may be lent again and again.
use Prim.Native.Nat.{ℕ}
use mathlib.Core.Path.{◌≡◌, refl, ◌∙◌, ap}
use mathlib.Core.List.{List, [], ◌∷◌, map}
use native.Mathlib.Omega.{arith}
use lib.Dec.{ltb}
use lib.ListN.{length, drop, length-append, length-drop}
use borrow.Author.Tests.{ltb-false}
use Rattle.basis.proofs.Choice.{by, beside}
use Rattle.reply.specs.Reply.{reply_of}
use Rattle.decide.specs.Ruling.{ruling_of}
use Rattle.device.specs.Step.{Step}
use Rattle.device.specs.Run.{State, Said, left_by, said_of, run_of, end_of, calls_of, lent_call, lent_of, lent_end}

module _ (s : State) (message : List ℕ) where
  -- the reply that is due, whatever the room
  abbrev due : List ℕ
  due = reply_of s.device.identity.address s.links (ruling_of s.device s.links message).plan.due

  pub room_alike : (room other : List ℕ) → length room ≡ length other → said_of (lent_call s room message) ≡ said_of (lent_call s other message)
  room_alike room other e = rw e (beside (λ (t u : Step). said_of t ≡ said_of u) (ltb (length other) (length due)) refl refl)

  -- no call changes its length
  pub room_kept : (room : List ℕ) → length (lent_call s room message).room ≡ length room
  room_kept room =
      by (λ (t : Step). length t.room ≡ length room) (ltb (length room) (length due)) (λ e. refl)
      (λ e. length-append due (drop (length due) room) ∙ simp length-drop (omega (arith, ltb-false (length room) (length due) e)))

-- so a room that is lent again and again gives what rooms of its length give
pub as_lent : (s : State) (room other : List ℕ) (messages : List (List ℕ)) → length room ≡ length other → lent_of s room messages ≡ map said_of (run_of s (calls_of other messages))
unfolding lent_of run_of
as_lent s room other [] e = refl
as_lent s room other (message ∷ more) e =
    let t = lent_call s room message in
    let rest = as_lent (left_by t) t.room other more (room_kept s message room ∙ e) in
    ap (λ (z : List Said). said_of t ∷ z) rest
    ∙ ap (λ (x : Said). x ∷ map said_of (run_of x.left (calls_of other more))) (room_alike s message room other e)

pub end_as_lent : (s : State) (room other : List ℕ) (messages : List (List ℕ)) → length room ≡ length other → lent_end s room messages ≡ end_of s (calls_of other messages)
unfolding lent_end end_of
end_as_lent s room other [] e = refl
end_as_lent s room other (message ∷ more) e =
    let t = lent_call s room message in
    end_as_lent (left_by t) t.room other more (room_kept s message room ∙ e)
    ∙ ap (λ (x : Said). end_of x.left (calls_of other more)) (room_alike s message room other e)

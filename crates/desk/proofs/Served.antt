-- A frame that was served, and one that was not: what is told of it, and what the desk comes to.
use Rattle.std.proofs.Common.{◌≡◌, ℕ, Bool, List, Some, None, sym, ap, ◌∙◌, arith}
use Rattle.io.specs.Counts.{IsPrefixLen}
use Rattle.basis.proofs.Counted.{counts}
use Rattle.modem.specs.declared.serve.Served.{Served}
use Rattle.modem.specs.Frames.{framed}
use Rattle.modem.specs.Serve.{ServePromise}
use Rattle.modem.proofs.Turned.{Shows, shows, refused}
use Rattle.desk.specs.declared.answer.Desk.{Desk}
use Rattle.desk.specs.Desk.{sat_at, closed_of, AnswerPromise, Handed}
use Rattle.desk.specs.Tally.{counted_as}

module _ (desk : Desk) {l frame room out links room' out' : List ℕ} where
  -- no frame was served
  pub no_turn : ServePromise desk.seating l frame room out None links room' out' → {after : Desk} → after ≡ closed_of desk
      → AnswerPromise desk l frame room out after links
  no_turn p e =
      let r = refused desk.seating l frame room out links room' out' p in
      record { served = λ h. absurd (omega (arith, r.0)); cramped = λ h. (e, r.1) }

  module _ {r : Served} (p : ServePromise desk.seating l frame room out (Some r) links room' out') where
    what : Shows desk.seating l frame room out r links room' out'
    what = shows desk.seating l frame room out links room' out' r p

    -- its frames lie in `out`, and its reply in the room
    pub frames_lie : IsPrefixLen r.sent out'
    frames_lie = counts r.sent out' what.lies

    pub reply_stands : IsPrefixLen r.heeded.length room'
    reply_stands = counts r.heeded.length room' what.stands

    pub told : Handed frame r.heeded r.sent room' out'
    told =
        record {
          state = sat_at desk l;
          lent = room;
          answer = what.answer;
          reply = what.reply;
          frames = what.frames ∙ ap framed (sym what.reply);
        }

    -- what the desk comes to, whether it is open or closed then
    pub turn : {after : Desk} {is_open : Bool}
        → after ≡ record { seating = r.heeded.next; tally = counted_as desk.tally r.heeded.number r.heeded.whom; is_open = is_open }
        → AnswerPromise desk l frame room out after links
    turn e =
        let left = rw what.answer at e in
        record {
          served = λ h. record { state = λ i. sat_at (left i) (what.memory i); tally = λ i. (left i).tally };
          cramped = λ h. absurd (omega (arith, what.enough));
        }

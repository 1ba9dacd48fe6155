-- Where a message to a row of images stands: whose turn it is, and what is said so far.
use Prim.Native.Nat.{ℕ, ◌+◌, ◌*◌, ◌≤◌, ◌<◌}
use mathlib.Core.Path.{◌≡◌, refl, sym, ◌∙◌, ap, subst}
use mathlib.Core.Bool.{true, false}
use mathlib.Core.List.{List}
use native.Mathlib.Omega.{arith}
use lib.ListN.{length, set, length-set}
use Rattle.basis.proofs.Tests.{clash}
use Rattle.wire.specs.declared.kind.Message.{Message}
use Rattle.module.specs.declared.state.Module.{Module}
use Rattle.module.specs.Module.{kind_of}
use Rattle.device.specs.Step.{Step, step_by}
use Rattle.device.proofs.Lasting.{identity_by, kind_by}
use Rattle.device.specs.declared.step.Answer.{Answer}
use Rattle.row.specs.Answer.{of_seat, and_seat}
use Rattle.row.specs.declared.progress.Round.{Round}
use Rattle.row.specs.declared.progress.ClassAnswer.{ClassAnswer}
use Rattle.row.specs.declared.progress.Progress.{Progress}
use Rattle.class.specs.Seat.{seat_at, share_at, with_share}
use Rattle.class.specs.Class.{ClassStep}
use Rattle.row.proofs.Noticed.{Serves, one, all}
use Rattle.class.specs.Turns.{Turn, answer_of, with_seat, offered, served, turn_by, Ready}
use Rattle.class.proofs.Runs.{Runs, Next, next, over}
use Rattle.image.specs.Image.{is_image, module_of, stored_in, stored_if_own}
use Rattle.image.proofs.Whole.{Own, own, stays_own, whole_module, stored_again}
use Rattle.embed_class.specs.Row.{image_in, with_image, stored_row}
use Rattle.embed_class.specs.Serve.{is_for_all, seat_step_in, SeatComes, RowComes}
use Rattle.embed_class.proofs.Stored.{Fit, own_at, image_at, put_at, fit_set}

-- which round it is, by the test that is made
for_all : (r : Round) → is_for_all r ≡ true → r ≡ Round.All
for_all Round.Note e = clash e refl
for_all Round.One e = clash e refl
for_all Round.All e = refl

for_one : (r : Round) → Serves r → is_for_all r ≡ false → r ≡ Round.One
for_one Round.Note h e = elim h [ ]
for_one Round.One one e = refl
for_one Round.All all e = clash refl e

module _ (target : ClassStep) (heard : Message) (bytes count : ℕ) (t : Progress) (before : List ℕ) where
  -- the progress t, at another seat and with another answer
  abbrev pub at : ℕ → ClassAnswer → Progress
  at seat answer = record { seat = seat; answer = answer; round = t.round; names = t.names; task = t.task }

  -- stored in the images as they were before, a row has made them, and the turns that are left lead from it to the target
  pub record Standing (images links room : List ℕ) (seat : ℕ) (answer : ClassAnswer) : Type 0 where
    pub row : List Module
    pub many : length row ≡ count
    pub fit : Fit row before
    pub held : images ≡ stored_row row before
    pub left : ℕ
    pub runs : Runs target heard bytes left row (at seat answer) links room
    pub seats : t.task.seats ≡ count
    pub serves : seat < count → Serves t.round

  -- no turn is left
  stands_over : (images links room : List ℕ) (seat : ℕ) (answer : ClassAnswer) → Standing images links room seat answer → count ≤ seat
      → RowComes before target answer images links room
  stands_over images links room seat answer u past =
      let c = over target heard bytes u.left u.row (at seat answer) links room u.runs (omega (arith, u.many, past)) in
      record {
        comes = record {
          number = c.number;
          outcome = c.outcome;
          sent = c.sent;
          read = c.read;
          whom = c.whom;
          seats = refl;
          memory = c.memory;
          room_after = c.room_after;
        };
        images-after = u.held ∙ ap (λ (row : List Module). stored_row row before) c.seats;
      }

  module _ (images links room : List ℕ) (seat : ℕ) (answer : ClassAnswer) (u : Standing images links room seat answer) (inside : seat < count) where
    there : seat < length u.row
    there = omega (arith, inside, u.many)

    onward : Next target heard bytes u.left u.row (at seat answer) links room
    onward = next target heard bytes u.left u.row (at seat answer) links room u.runs there

    ready : Ready (at seat answer) bytes
    ready = onward.ready

    abbrev m : Module
    m = seat_at u.row seat

    abbrev y : Step
    y = step_by m (share_at t.task.share seat links) heard room

    -- the image as it was before
    abbrev x : List ℕ
    x = image_in seat before

    mine : Own x m
    mine = own_at u.row before seat u.fit there

    its-image : image_in seat images ≡ stored_in x m
    its-image = ap (image_in seat) u.held ∙ image_at u.row before seat u.fit there

    is_one : is_image (image_in seat images) ≡ true
    is_one = ap is_image its-image ∙ (stays_own x m mine).is_one

    -- it holds the module of the seat
    same_step : seat_step_in t.task.share seat images links heard room ≡ y
    same_step =
        let it = ap module_of its-image ∙ whole_module x m mine in
        λ j. step_by (it j) (share_at t.task.share seat links) heard room

    -- which stays of its kind and identity
    lasting : y.next.identity ≡ m.identity
    lasting = identity_by m (share_at t.task.share seat links) heard room

    of_kind : kind_of y.next.load ≡ kind_of m.load
    of_kind = kind_by m (share_at t.task.share seat links) heard room

    next_own : Own x y.next
    next_own = record { is_one = mine.is_one; who = lasting ∙ mine.who; of_kind = of_kind ∙ mine.of_kind }

    -- so it is stored where it was
    row-after : with_image seat (stored_if_own (image_in seat images) (seat_step_in t.task.share seat images links heard room).next) images ≡ stored_row (set u.row seat y.next) before
    row-after =
        let kept = stays_own x m mine in
        let stays = own (stored_in x m) y.next kept.is_one (of_kind ∙ kept.of_kind) ∙ stored_again x m y.next mine next_own in
        (λ j. with_image seat (stored_if_own (its-image j) (same_step j).next) (u.held j))
        ∙ ap (λ (s : List ℕ). with_image seat s (stored_row u.row before)) stays
        ∙ put_at u.row before seat y.next u.fit there

    -- its turn, by the round
    abbrev Turned : Round → Type 0
    Turned round =
        let x : Turn = turn_by round m (at seat answer) heard links room in
        Runs target heard bytes onward.left (set u.row seat x.next) x.progress x.links x.room

    turned : (round : Round) → t.round ≡ round → Turned round
    turned round e = subst Turned e onward.runs

    module _ (own : Answer) (images' links' room' : List ℕ) (s : SeatComes t.task.share seat images links heard room own images' links' room') where
      outcome : own.outcome ≡ y.outcome
      outcome = s.outcome ∙ ap (λ (x : Step). x.outcome) same_step

      sent : own.length ≡ length y.reply
      sent = s.sent ∙ ap (λ (x : Step). length x.reply) same_step

      read : own.read ≡ y.read
      read = s.read ∙ ap (λ (x : Step). x.read) same_step

      -- wherever the turn leads, that is where the row stands
      abbrev Gone : Progress → Type 0
      Gone z = Runs target heard bytes onward.left (set u.row seat y.next) z (with_share t.task.share seat y.links links) y.room

      leads : (p : Progress) → Gone p → (seat' : ℕ) (answer' : ClassAnswer) → p ≡ at seat' answer' → Standing images' links' room' seat' answer'
      leads p runs seat' answer' e =
          let memory = s.share-after ∙ ap (λ (x : Step). with_share t.task.share seat x.links links) same_step in
          let after = s.room_after ∙ ap (λ (x : Step). x.room) same_step in
          let stood : List Module = set u.row seat y.next in
          let gone : Gone (at seat' answer') = subst Gone e runs in
          let kept-links = subst (λ (z : List ℕ). Runs target heard bytes onward.left stood (at seat' answer') z y.room) (sym memory) gone in
          record {
            row = stood;
            many = length-set u.row seat y.next ∙ u.many;
            fit = fit_set u.row before seat y.next u.fit next_own;
            held = s.image-after ∙ row-after;
            left = onward.left;
            runs = subst (λ (z : List ℕ). Runs target heard bytes onward.left stood (at seat' answer') links' z) (sym after) kept-links;
            seats = u.seats;
            serves = λ h. u.serves inside;
          }

      to-next : is_for_all t.round ≡ true → Standing images' links' room' (seat + 1) (with_seat answer own)
      to-next a =
          leads (offered (at seat answer) (answer_of y)).progress (turned Round.All (for_all t.round a)) (seat + 1) (with_seat answer own)
          (λ j. at (seat + 1) (and_seat answer (sym outcome j) (answer.read + sym read j)))

      to_end : is_for_all t.round ≡ false → Standing images' links' room' count (of_seat seat own.outcome own.length own.read)
      to_end a =
          leads (served (at seat answer) (answer_of y)).progress (turned Round.One (for_one t.round (u.serves inside) a)) count (of_seat seat own.outcome own.length own.read)
          (λ j. at (u.seats j) (of_seat seat (sym outcome j) (sym sent j) (sym read j)))

  -- it stands so, and this is then to come
  pub record Awaits (images links room : List ℕ) (seat : ℕ) (answer : ClassAnswer) : Type 0 where
    pub stands : Standing images links room seat answer
    pub over : count ≤ seat → RowComes before target answer images links room
    pub own : seat < count → seat * t.task.share + t.task.share ≤ bytes
    pub counted : seat < count → answer.read ≤ 4096
    pub is_one : seat < count → is_image (image_in seat images) ≡ true

  module _ (images links room : List ℕ) (seat : ℕ) (answer : ClassAnswer) where
    pub awaits : Standing images links room seat answer → Awaits images links room seat answer
    awaits u =
        record {
          stands = u;
          over = stands_over images links room seat answer u;
          own = λ h. (ready images links room seat answer u h).own;
          counted = λ h. (ready images links room seat answer u h).counted;
          is_one = λ h. is_one images links room seat answer u h;
        }

  module _ (images links room : List ℕ) (seat : ℕ) (answer : ClassAnswer) where
    module _ (p : Awaits images links room seat answer) (inside : seat < count) (own : Answer) (answer' : ClassAnswer) (images' links' room' : List ℕ) where
      pub next_seat : is_for_all t.round ≡ true → answer' ≡ and_seat answer own.outcome (answer.read + own.read)
          → SeatComes t.task.share seat images links heard room own images' links' room' → Awaits images' links' room' (seat + 1) answer'
      next_seat a e s = rw e (awaits images' links' room' (seat + 1) _ (to-next images links room seat answer p.stands inside own images' links' room' s a))

      pub one_seat : is_for_all t.round ≡ false → answer' ≡ of_seat seat own.outcome own.length own.read
          → SeatComes t.task.share seat images links heard room own images' links' room' → RowComes before target answer' images' links' room'
      one_seat a e s = rw e (stands_over images' links' room' count _ (to_end images links room seat answer p.stands inside own images' links' room' s a) (omega arith))

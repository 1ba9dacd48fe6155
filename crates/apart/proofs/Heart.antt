-- Any sequence of messages: each seat runs as if alone, and the quiet pupil is safe.
use Prim.Native.Nat.{ℕ, ◌<◌}
use mathlib.Core.Path.{◌≡◌, refl, sym, ◌∙◌, ap, subst}
use mathlib.Core.Bool.{Bool, true, false}
use mathlib.Core.List.{List, [], ◌∷◌}
use native.Mathlib.Omega.{arith}
use lib.ListN.{length}
use Rattle.wire.specs.Kinds.{is_broadcast}
use Rattle.results.specs.declared.Outcome.{Outcome}
use Rattle.device.specs.Step.{Step, step_of}
use Rattle.device.specs.Run.{Call, State, call_of, left_by, run_of, end_of}
use Rattle.row.specs.declared.outcome.ClassOutcome.{ClassOutcome}
use Rattle.row.specs.Row.{is_row_fit, is_doubled}
use Rattle.class.specs.Seat.{name_at}
use Rattle.row.proofs.Fit.{share_there}
use Rattle.row.proofs.Named.{doubled_agrees}
use Rattle.apart.specs.Lesson.{Class, Seated, tell, leaves, after_all, width, alone, is_for}
use Rattle.apart.specs.Alone.{Answers, Stays}
use Rattle.apart.specs.Heart.{contributes, Gives, answer, part, none, ours, others, Parted, AlwaysParted, Meant, RunsAlone, SameRow, QuietPupil, RowAlwaysStays}
use Rattle.apart.proofs.Alone.{taken_alone, row_stays, left_alone, answered_alone}
use Rattle.apart.proofs.Round.{heeded}

single : ClassOutcome → Outcome
single (ClassOutcome.Single o) = o
single ClassOutcome.Doubled = Outcome.Done
single ClassOutcome.NoSeat = Outcome.Done
single ClassOutcome.Unfit = Outcome.Done

same_single : (o p : Outcome) → ClassOutcome.Single o ≡ ClassOutcome.Single p → o ≡ p
unfolding single
same_single o p e = ap single e

module _ (c : Class) (x : Call) (i : ℕ) (inside : i < length c.row) where
  -- where a broadcast reaches seat i nothing of it has been altered
  contributes-alone : is_broadcast x.message ≡ true → contributes c x i ≡ call_of (alone c i) x
  contributes-alone b =
      let so_far =
      heeded (width c) x.message b (length c.row) i 0 (record { acted = false; read = 0; row = c.row; links = c.links; room = x.room })
      (record { seats = refl; shares = λ j h. share_there (length c.row) (length c.links) j h }) (omega (arith, inside)) in
      (λ e. step_of (so_far.later-seats i (omega arith) e) (so_far.later-links i (omega arith) e) x.message (so_far.room e))

  -- what a message gives seat i is what comes of it alone
  gives_alone : Seated c → (y : Step) → is_for (name_at c.row i) x.message ≡ true → Gives c x i y → call_of (alone c i) x ≡ y
  gives_alone sits y mine (part b e) = sym (contributes-alone b) ∙ e
  gives_alone sits y mine (answer b said left) =
      let t : Answers (tell c x) (call_of (alone c i) x) = answered_alone c sits x i inside mine b in
      let state : left_by (call_of (alone c i) x) ≡ left_by y = sym (taken_alone c sits x i inside) ∙ left in
      (λ e. record {
        outcome = same_single _ _ (sym t.outcome ∙ said.outcome) e;
        reply = (sym t.reply ∙ said.reply) e;
        read = (sym t.read ∙ said.read) e;
        next = (state e).device;
        links = (state e).links;
        room = (sym t.room ∙ said.room) e;
      })

  given : Seated c → is_for (name_at c.row i) x.message ≡ true → (b : Bool) → is_broadcast x.message ≡ b → Gives c x i (call_of (alone c i) x)
  given sits mine true b = part b (contributes-alone b)
  given sits mine false b = answer b (answered_alone c sits x i inside mine b) (taken_alone c sits x i inside)

inside_still : (c : Class) → Seated c → (x : Call) (i : ℕ) → i < length c.row → i < length (tell c x).row
inside_still c sits x i h = subst (λ (k : ℕ). i < k) (sym (row_stays c sits x).seats) h

pub always_parted : AlwaysParted
always_parted c sits i h [] = record { kept = []; steps = []; meant = none }
always_parted c sits i h (x ∷ xs) =
    go (is_for (name_at c.row i) x.message) refl (always_parted (leaves (tell c x)) (row_stays c sits x).seated i (inside_still c sits x i h) xs)
  where
    go : (b : Bool) → is_for (name_at c.row i) x.message ≡ b → Parted i (leaves (tell c x)) xs → Parted i c (x ∷ xs)
    go true q p = record { kept = x ∷ p.kept; steps = call_of (alone c i) x ∷ p.steps; meant = ours q (given c x i h sits q (is_broadcast x.message) refl) p.meant }
    go false q p = record { kept = p.kept; steps = p.steps; meant = others q p.meant }

-- the seat first, since the run goes on with another class
run_alone : (i : ℕ) (c : Class) → Seated c → i < length c.row → (xs kept : List Call) (steps : List Step) → Meant i c xs kept steps
    → (run_of (alone c i) kept ≡ steps) × (end_of (alone c i) kept ≡ alone (after_all c xs) i)
unfolding run_of end_of after_all
run_alone i c sits h xs kept steps none = (refl, refl)
run_alone i c sits h xs kept steps (ours {x = x} {xs = rest} {kept = theirs} {y = y} {steps = more} q g m) =
    let later = run_alone i (leaves (tell c x)) (row_stays c sits x).seated (inside_still c sits x i h) rest theirs more m in
    let state : left_by (call_of (alone c i) x) ≡ alone (leaves (tell c x)) i = sym (taken_alone c sits x i h) in
    ((λ e. gives_alone c x i h sits y q g e ∷ (ap (λ (s : State). run_of s theirs) state ∙ later.0) e), ap (λ (s : State). end_of s theirs) state ∙ later.1)
run_alone i c sits h xs kept steps (others {x = x} {xs = rest} q m) =
    let later = run_alone i (leaves (tell c x)) (row_stays c sits x).seated (inside_still c sits x i h) rest kept steps m in
    let state : alone c i ≡ alone (leaves (tell c x)) i = sym (left_alone c x i q) ∙ sym (taken_alone c sits x i h) in
    (ap (λ (s : State). run_of s kept) state ∙ later.0, ap (λ (s : State). end_of s kept) state ∙ later.1)

pub runs_alone : RunsAlone
runs_alone c sits i = run_alone i c sits

-- a row of the same addresses can be served as the other can
seated_too : (c d : Class) → Seated c → SameRow c d → Seated d
seated_too c d sits same =
    record {
      fit = subst (λ (k : ℕ). is_row_fit k (length d.links) ≡ true) (sym same.seats) (subst (λ (k : ℕ). is_row_fit (length c.row) k ≡ true) (sym same.bytes) sits.fit);
      apart = subst (λ (k : ℕ). is_doubled (name_at d.row) k ≡ false) (sym same.seats) (doubled_agrees (name_at d.row) (name_at c.row) (length c.row) same.names ∙ sits.apart);
    }

pub quiet_pupil : QuietPupil
quiet_pupil c d sits same i h alike xs ys kept steps theirs m k =
    let one = runs_alone c sits i h xs kept steps m in
    let other = runs_alone d (seated_too c d sits same) i (subst (λ (n : ℕ). i < n) (sym same.seats) h) ys kept theirs k in
    (sym one.0 ∙ ap (λ (s : State). run_of s kept) alike ∙ other.0, sym one.1 ∙ ap (λ (s : State). end_of s kept) alike ∙ other.1)

-- what stays from one class to the next, and from there on, stays
on : (c d e : Class) → Stays c d → Stays d e → Stays c e
on c d e p q =
    let there : (i : ℕ) → i < length c.row → i < length d.row = λ i h. subst (λ (k : ℕ). i < k) (sym p.seats) h in
    record {
      seats = q.seats ∙ p.seats;
      bytes = q.bytes ∙ p.bytes;
      names = λ i h. q.names i (there i h) ∙ p.names i h;
      kinds = λ i h. q.kinds i (there i h) ∙ p.kinds i h;
      answers = λ i h s. q.answers i (there i h) s ∙ p.answers i h s;
      seated = q.seated;
    }

pub row_always_stays : RowAlwaysStays
unfolding after_all
row_always_stays c sits [] =
    record { seats = refl; bytes = refl; names = λ i h. refl; kinds = λ i h. refl; answers = λ i h s. refl; seated = sits }
row_always_stays c sits (x ∷ xs) =
    let first = row_stays c sits x in
    on c (leaves (tell c x)) (after_all c (x ∷ xs)) first (row_always_stays (leaves (tell c x)) first.seated xs)

-- Two rounds of turns give what the definition says.
use Prim.Native.Nat.{ℕ, zero, suc, pred, ◌+◌, ◌*◌, ◌/◌, ◌≤◌, ◌<◌}
use mathlib.Core.Path.{◌≡◌, refl, sym, ◌∙◌, ap, subst}
use mathlib.Core.Bool.{Bool, true, false, ◌||◌}
use mathlib.Core.List.{List}
use native.Mathlib.Omega.{arith}
use lib.Dec.{eqb, ltb}
use lib.ListN.{length, set, length-set, replicate}
use lib.Seq.{get_or-set_same, get_or-set_other, set-get_or}
use borrow.Author.Tests.{ltb-true, lt-ltb, le-ltb, eqb-true, eqb-false}
use Rattle.std.specs.Prelude.{Ok, Err}
use Rattle.basis.specs.Choice.{choose}
use Rattle.wire.specs.declared.address.Address.{Address}
use Rattle.wire.specs.declared.kind.Message.{Message}
use Rattle.wire.specs.declared.kind.MessageKind.{MessageKind}
use Rattle.wire.specs.declared.kind.Unread.{Unread}
use Rattle.wire.specs.Bytes.{no_name, to_of, named_in, data_of, is_whole}
use Rattle.wire.specs.Kinds.{is_direct, is_broadcast, is_unheard, is_foreign, kind_of}
use Rattle.wire.specs.Checksum.{is_sum_wrong}
use Rattle.wire.specs.Reading.{bare, read_of, heard_in}
use Rattle.wire.proofs.Heard.{says_whom}
use Rattle.results.specs.declared.Outcome.{Outcome}
use Rattle.results.specs.Number.{number_of}
use Rattle.module.specs.declared.state.Module.{Module}
use Rattle.device.specs.Step.{Step, step_by}
use Rattle.device.proofs.Counted.{most_read}
use Rattle.row.specs.declared.outcome.ClassOutcome.{ClassOutcome}
use Rattle.row.specs.declared.progress.ClassAnswer.{ClassAnswer}
use Rattle.row.specs.declared.progress.Whom.{Whom}
use Rattle.row.specs.declared.progress.Round.{Round}
use Rattle.row.specs.declared.progress.Task.{Task}
use Rattle.row.specs.declared.progress.Progress.{Progress}
use Rattle.row.specs.Row.{is_row_fit, seat_named, is_doubled}
use Rattle.class.specs.Seat.{nobody, seat_at, name_at, share_at, with_share}
use Rattle.class.specs.Class.{ClassStep, refused_by, served_at, addressed_to, Heard, heard_at, heard_from, offered_to, broadcast_to, class_of, ClassComes}
use Rattle.row.specs.Answer.{silent, joined}
use Rattle.row.specs.Round.{ended, task_of, begun, opened, all_named, noticed, name_in, second_round, addressed, scope_of, by_scope, settled}
use Rattle.class.specs.Turns.{answer_of, offered, noted}
use Rattle.row.proofs.Fit.{Fit, fit, share_there}
use Rattle.row.proofs.Named.{same_address, named_agrees, doubled_agrees, found}
use Rattle.row.proofs.Readings.{says_to, only_unheard, not_direct, not-cleanup, read_alike, not-summed, some_kind}
use Rattle.class.proofs.Runs.{Goes, ends, goes_on}

-- any seat that acted makes it done
joins : (a : Bool) (o : Outcome)
    → joined (ClassOutcome.Single (choose a Outcome.Done Outcome.Unconcerned)) o
    ≡ ClassOutcome.Single (choose (a || eqb (number_of o) 0) Outcome.Done Outcome.Unconcerned)
unfolding choose
joins a o = go a (eqb (number_of o) 0)
  where
    go : (a b : Bool) → choose b (ClassOutcome.Single Outcome.Done) (ClassOutcome.Single (choose a Outcome.Done Outcome.Unconcerned)) ≡ ClassOutcome.Single (choose (a || b) Outcome.Done Outcome.Unconcerned)
    go true true = refl
    go true false = refl
    go false true = refl
    go false false = refl

module _ (row : List Module) (l s room : List ℕ) where
  abbrev n : ℕ
  n = length row

  abbrev w : ℕ
  w = length l / length row

  -- the definition from its second refusal on, its third, and its fourth
  abbrev heard_so : ClassStep
  heard_so =
      choose (is_unheard s) (refused_by (ClassOutcome.Single Outcome.Foreign) row l room)
      (choose (is_broadcast s) (broadcast_to w row l s room) (addressed_to w row l s room))

  abbrev whole_so : ClassStep
  whole_so = choose (is_whole s) heard_so (refused_by (ClassOutcome.Single Outcome.BadLength) row l room)

  abbrev after_names : ClassStep
  after_names = choose (is_doubled (name_at row) n) (refused_by ClassOutcome.Doubled row l room) whole_so

  -- the turns of the row, from a progress on
  abbrev From : ClassStep → Progress → Type 0
  From target t = Goes target (heard_in s) (length l) row t l room

  -- what stays
  abbrev task : Task
  task = task_of n w (heard_in s)

  -- the first round, with the addresses before seat i
  abbrev noting : ℕ → List Address → Progress
  noting i names = record { seat = i; answer = silent ClassOutcome.Unfit; round = Round.Note; names = names; task = task }

  refuses : (o : ClassOutcome) (i : ℕ) (names : List Address) → From (refused_by o row l room) (ended (noting i names) (silent o))
  refuses o i names =
      ends (refused_by o row l room) (heard_in s) (length l) row (ended (noting i names) (silent o)) l room (omega arith)
      (record { number = refl; outcome = refl; sent = refl; read = refl; whom = refl; seats = refl; memory = refl; room_after = refl })

  module _ (fits : Fit n (length l)) where
    own_share : (i : ℕ) → i < n → i * w + w ≤ length l
    own_share i h = share_there n (length l) i h

    module _ (at : ℕ) (names : List Address) (agrees : (j : ℕ) → j < n → name_in names j ≡ name_at row j) where
      abbrev u : Progress
      u = noting at names

      -- ---- direct or cleanup
      abbrev alone : ℕ → Progress
      alone i = second_round u i Round.One (Whom.Seat i)

      abbrev One : ℕ → Message → Type 0
      One i h =
          let y : Step = step_by (seat_at row i) (share_at w i l) h room in
          ClassComes (served_at w row l s room i)
          (record { outcome = ClassOutcome.Single y.outcome; length = length y.reply; read = y.read; whom = Whom.Seat i })
          (set row i y.next) (with_share w i y.links l) y.room

      one-served : (i : ℕ) → i < n → read_of s (name_at row i) ≡ read_of s (named_in s) → From (served_at w row l s room i) (alone i)
      unfolding choose
      one-served i inside e =
          goes_on (served_at w row l s room i) (heard_in s) (length l) row (alone i) l room inside
          (record { inside = inside; few = fits.few; own = own_share i inside; counted = omega arith })
          (ends (served_at w row l s room i) (heard_in s) (length l) _ _ _ _ (omega (arith, length-set row i (step_by (seat_at row i) (share_at w i l) (read_of s (named_in s)) room).next))
          (subst (One i) e (record { number = refl; outcome = refl; sent = refl; read = refl; whom = refl; seats = refl; memory = refl; room_after = refl })))

      goes_to : is_whole s ≡ true → From (addressed_to w row l s room) (addressed u)
      unfolding choose
      goes_to h = subst (λ (k : ℕ). From (addressed_to w row l s room) (choose (ltb k n) (alone k) (ended u (silent ClassOutcome.NoSeat)))) (sym e) (go (ltb i n) refl)
        where
          i : ℕ
          i = seat_named (name_at row) n (to_of s)

          e : seat_named (name_in names) n (heard_in s).to ≡ i
          e = ap (seat_named (name_in names) n) (says_whom s (named_in s) ∙ says_to s h) ∙ named_agrees (name_in names) (name_at row) n (to_of s) agrees

          go : (b : Bool) → ltb i n ≡ b
              → From (choose b (served_at w row l s room i) (refused_by ClassOutcome.NoSeat row l room)) (choose b (alone i) (ended u (silent ClassOutcome.NoSeat)))
          go true q =
              let inside : i < n = ltb-true i n q in
              let its : to_of s ≡ name_at row i = same_address (to_of s) (name_at row i) (found (name_at row) n (to_of s) inside) in
              one-served i inside (ap (read_of s) (sym its ∙ sym (says_to s h)))
          go false q = refuses ClassOutcome.NoSeat at names

      -- ---- a broadcast
      abbrev so_far : Heard → ClassAnswer
      so_far x = record { outcome = ClassOutcome.Single (choose x.acted Outcome.Done Outcome.Unconcerned); length = 0; read = x.read; whom = Whom.All }

      abbrev at_seat : ℕ → ClassAnswer → Progress
      at_seat i answer = record { seat = i; answer = answer; round = Round.All; names = names; task = task }

      one-heard : is_broadcast s ≡ true → (T : ClassStep) (i : ℕ) (x : Heard) → i < n → length x.row ≡ n → x.read ≤ 256 * i
          → Goes T (heard_in s) (length l) (heard_at w s i x).row (at_seat (i + 1) (so_far (heard_at w s i x))) (heard_at w s i x).links (heard_at w s i x).room
          → Goes T (heard_in s) (length l) x.row (at_seat i (so_far x)) x.links x.room
      unfolding choose
      one-heard b T i x inside len read later =
          goes_on T (heard_in s) (length l) x.row (at_seat i (so_far x)) x.links x.room (omega (arith, inside, len))
          (record { inside = inside; few = fits.few; own = own_share i inside; counted = omega (arith, inside, read, fits.few) })
          (subst After (read_alike s b (name_at x.row i) (named_in s)) (subst Joined (sym (joins x.acted (y (read_of s (name_at x.row i))).outcome)) later))
        where
          y : Message → Step
          y h = step_by (seat_at x.row i) (share_at w i x.links) h x.room

          After : Message → Type 0
          After h =
              Goes T (heard_in s) (length l) (set x.row i (y h).next) (offered (at_seat i (so_far x)) (answer_of (y h))).progress
              (with_share w i (y h).links x.links) (y h).room

          Joined : ClassOutcome → Type 0
          Joined o =
              let z : Step = y (read_of s (name_at x.row i)) in
              Goes T (heard_in s) (length l) (set x.row i z.next) (at_seat (i + 1) (record { outcome = o; length = 0; read = x.read + z.read; whom = Whom.All }))
              (with_share w i z.links x.links) z.room

      all-heard : is_broadcast s ≡ true → (k i : ℕ) (x : Heard) → i + k ≡ n → length x.row ≡ n → x.read ≤ 256 * i
          → Goes (offered_to (heard_from w s k i x)) (heard_in s) (length l) x.row (at_seat i (so_far x)) x.links x.room
      unfolding heard_from
      all-heard b zero i x e len read =
          ends (offered_to x) (heard_in s) (length l) x.row (at_seat i (so_far x)) x.links x.room (omega (arith, e, len))
          (record { number = refl; outcome = refl; sent = refl; read = refl; whom = refl; seats = refl; memory = refl; room_after = refl })
      all-heard b (suc k) i x e len read =
          one-heard b (offered_to (heard_from w s k (i + 1) (heard_at w s i x))) i x (omega (arith, e)) len read
          (all-heard b k (i + 1) (heard_at w s i x) (omega (arith, e)) (length-set x.row i _ ∙ len)
          (omega (arith, read, most_read (seat_at x.row i) (share_at w i x.links) (read_of s (name_at x.row i)) x.room)))

      -- ---- by what the message is read into
      abbrev spoken : Message
      spoken = record { to = named_in s; reading = Ok (kind_of s); «data» = data_of s }

      abbrev foreign : Message
      foreign = bare (named_in s) (Ok MessageKind.Foreign)

      abbrev said : Message
      said = choose (is_sum_wrong s) (bare (named_in s) (Err Unread.BadSum)) spoken

      everybody : is_broadcast s ≡ true → is_unheard s ≡ false → by_scope u (scope_of said.reading) ≡ second_round u 0 Round.All Whom.All
      unfolding choose kind_of
      everybody b p = rw (not-summed s b p, not_direct s b, not-cleanup s b)

      somebody : is_broadcast s ≡ false → is_unheard s ≡ false → by_scope u (scope_of said.reading) ≡ addressed u
      unfolding choose kind_of
      somebody b p = go (is_sum_wrong s) (is_direct s) refl
        where
          go : (x d : Bool) → is_direct s ≡ d → by_scope u (scope_of (choose x (bare (named_in s) (Err Unread.BadSum)) spoken).reading) ≡ addressed u
          go true d q = refl
          go false true q = rw q
          go false false q = rw (q, some_kind s p b q)

      kinds : is_whole s ≡ true → is_unheard s ≡ false
          → From (choose (is_broadcast s) (broadcast_to w row l s room) (addressed_to w row l s room)) (by_scope u (scope_of said.reading))
      unfolding choose
      kinds h p = go (is_broadcast s) refl
        where
          go : (b : Bool) → is_broadcast s ≡ b → From (choose b (broadcast_to w row l s room) (addressed_to w row l s room)) (by_scope u (scope_of said.reading))
          go true q =
              subst (From (broadcast_to w row l s room)) (sym (everybody q p))
              (all-heard q n 0 (record { acted = false; read = 0; row = row; links = l; room = room }) (omega arith) refl (omega arith))
          go false q = subst (From (addressed_to w row l s room)) (sym (somebody q p)) (goes_to h)

      hearings : is_whole s ≡ true → From heard_so (by_scope u (scope_of (choose (is_foreign s (named_in s)) foreign said).reading))
      unfolding choose
      hearings h =
          subst (λ (b : Bool). From heard_so (by_scope u (scope_of (choose b foreign said).reading)))
          (sym (only_unheard s (named_in s) (says_to s h))) (go (is_unheard s) refl)
        where
          go : (b : Bool) → is_unheard s ≡ b
              → From (choose b (refused_by (ClassOutcome.Single Outcome.Foreign) row l room) (choose (is_broadcast s) (broadcast_to w row l s room) (addressed_to w row l s room)))
              (by_scope u (scope_of (choose b foreign said).reading))
          go true p = refuses (ClassOutcome.Single Outcome.Foreign) at names
          go false p = kinds h p

      readings : From whole_so (by_scope u (scope_of (heard_in s).reading))
      unfolding choose read_of
      readings = go (is_whole s) refl
        where
          go : (b : Bool) → is_whole s ≡ b
              → From (choose b heard_so (refused_by (ClassOutcome.Single Outcome.BadLength) row l room))
              (by_scope u (scope_of (choose b (choose (is_foreign s (named_in s)) foreign said) (bare (named_in s) (Err Unread.BadLength))).reading))
          go true h = hearings h
          go false h = refuses (ClassOutcome.Single Outcome.BadLength) at names

      settles : From after_names (settled u)
      unfolding choose
      settles =
          subst (λ (b : Bool). From (choose b (refused_by ClassOutcome.Doubled row l room) whole_so) (settled u))
          (doubled_agrees (name_in names) (name_at row) n agrees) (go (is_doubled (name_in names) n))
        where
          go : (b : Bool) → From (choose b (refused_by ClassOutcome.Doubled row l room) whole_so) (choose b (ended u (silent ClassOutcome.Doubled)) (by_scope u (scope_of (heard_in s).reading)))
          go true = refuses ClassOutcome.Doubled at names
          go false = readings

    -- ---- the first round
    abbrev Agree : ℕ → List Address → Type 0
    Agree i names = (j : ℕ) → j < i → name_in names j ≡ name_at row j

    one_more : (i : ℕ) (names : List Address) → i < length names → Agree i names → Agree (i + 1) (set names i (name_at row i))
    one_more i names inside agree j h = go (eqb j i) refl
      where
        go : (b : Bool) → eqb j i ≡ b → name_in (set names i (name_at row i)) j ≡ name_at row j
        go true q =
            let e : j ≡ i = eqb-true j i q in
            rw e (get_or-set_same names i (name_at row i) no_name inside)
        go false q = get_or-set_other names i j (name_at row i) no_name (eqb-false j i q) ∙ agree j (omega (arith, h, eqb-false j i q))

    -- a turn of it: nothing is altered
    one-noted : (i : ℕ) (names : List Address) → i < n → From after_names (noted (noting i names) (name_at row i)) → From after_names (noting i names)
    unfolding choose
    one-noted i names inside later =
        goes_on after_names (heard_in s) (length l) row (noting i names) l room inside
        (record { inside = inside; few = fits.few; own = own_share i inside; counted = omega arith })
        (subst (λ (xs : List Module). Goes after_names (heard_in s) (length l) xs (noted (noting i names) (name_at row i)) l room) (sym (set-get_or row i nobody)) later)

    notes : (k i : ℕ) (names : List Address) → i + suc k ≡ n → length names ≡ 16 → Agree i names → From after_names (noting i names)
    unfolding choose
    notes zero i names e len agree =
        let inside : i < n = omega (arith, e) in
        let last : ltb (i + 1) n ≡ false = le-ltb (i + 1) n (omega (arith, e)) in
        one-noted i names inside
        (rw last
        (settles (i + 1) (set names i (name_at row i)) (λ j h. one_more i names (omega (arith, inside, fits.few, len)) agree j (omega (arith, h, e)))))
    notes (suc k) i names e len agree =
        let inside : i < n = omega (arith, e) in
        let more : ltb (i + 1) n ≡ true = lt-ltb (i + 1) n (omega (arith, e)) in
        one-noted i names inside
        (rw more
        (notes k (i + 1) (set names i (name_at row i)) (omega (arith, e)) (length-set names i (name_at row i) ∙ len)
        (one_more i names (omega (arith, inside, fits.few, len)) agree)))

  -- a row that cannot be served at all has no turns
  unfit : From (refused_by ClassOutcome.Unfit row l room) (begun n (task_of n 0 (heard_in s)))
  unfit =
      ends (refused_by ClassOutcome.Unfit row l room) (heard_in s) (length l) row (begun n (task_of n 0 (heard_in s))) l room (omega arith)
      (record { number = refl; outcome = refl; sent = refl; read = refl; whom = refl; seats = refl; memory = refl; room_after = refl })

  abbrev opened_by : Bool → Progress
  opened_by b = choose b (begun 0 task) (begun n (task_of n 0 (heard_in s)))

  -- a message to the class, from its first turn to its last
  pub opens : Goes (class_of row l s room) (heard_in s) (length l) row (opened (length row) (length l) (heard_in s)) l room
  unfolding choose class_of opened
  opens = go (is_row_fit n (length l)) refl
    where
      go : (b : Bool) → is_row_fit n (length l) ≡ b → From (choose b after_names (refused_by ClassOutcome.Unfit row l room)) (opened_by b)
      go true q =
          let fits : Fit n (length l) = fit n (length l) q in
          notes fits (pred n) 0 (replicate 16 no_name) (omega (arith, fits.some)) refl (λ j h. absurd (omega (arith, h)))
      go false q = unfit

  -- and for whoever has the addresses together
  pub notices : (names : List Address) → ((j : ℕ) → j < n → name_in names j ≡ name_at row j)
      → Goes (class_of row l s room) (heard_in s) (length l) row (noticed names (length row) (length l) (heard_in s)) l room
  unfolding choose class_of opened noticed
  notices names agrees = go (is_row_fit n (length l)) refl
    where
      go : (b : Bool) → is_row_fit n (length l) ≡ b
          → From (choose b after_names (refused_by ClassOutcome.Unfit row l room)) (choose (ltb (opened_by b).seat n) (settled (all_named names (opened_by b))) (opened_by b))
      go true q =
          let fits : Fit n (length l) = fit n (length l) q in
          rw (lt-ltb 0 n fits.some) (settles fits n names agrees)
      go false q = rw (le-ltb n n (omega arith)) unfit

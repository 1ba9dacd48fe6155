-- Every result is the one that its line of the table says.
use Prim.Native.Nat.{ℕ}
use mathlib.Core.Path.{◌≡◌, refl, sym, ◌∙◌, ap}
use mathlib.Core.Bool.{Bool, true, false}
use mathlib.Core.List.{List}
use mathlib.Core.Logic.{◌⊎◌, inl, inr}
use native.Mathlib.Omega.{arith}
use lib.Dec.{ltb}
use lib.ListN.{length}
use borrow.Author.Tests.{eqb-true, ltb-true, ltb-false}
use Rattle.basis.specs.Choice.{choose}
use Rattle.basis.proofs.Tests.{clash}
use Rattle.wire.specs.Bytes.{from_of, hops_of, to_of, command1_of, command2_of, request_of, data_of}
use Rattle.wire.specs.Commands.{group_command_of}
use Rattle.wire.specs.Kinds.{type_of, is_direct, is_cleanup, is_broadcast}
use Rattle.wire.specs.Reading.{read_of}
use Rattle.links.specs.Record.{records, record_at, link_of}
use Rattle.links.specs.Live.{Linked}
use Rattle.links.proofs.Linked.{linked_or_not}
use Rattle.reply.specs.declared.due.ReplyType.{ReplyType}
use Rattle.reply.specs.declared.due.Due.{Due}
use Rattle.reply.specs.Message.{standard}
use Rattle.results.specs.declared.Outcome.{Outcome}
use Rattle.results.specs.Number.{number_of}
use Rattle.module.specs.declared.state.Module.{Module}
use Rattle.module.specs.declared.deed.Deed.{Deed}
use Rattle.module.specs.Plan.{unlinked, unlisted, deed_plan}
use Rattle.decide.specs.Ruling.{silence, ruling_by, ruling_of}
use Rattle.decide.proofs.Sender.{stranger-plan}
use Rattle.device.specs.Step.{step_of}
use Rattle.promises.specs.Demand1.{nak_of}
use Rattle.promises.specs.Demand3.{Stranger, ping_or_id}
use Rattle.promises.specs.Legal.{Effect}
use Rattle.promises.specs.LegalAny.{Legal}
use Rattle.promises.specs.Responders.{NoResponder}
use Rattle.wire.specs.Asked.{GroupCommand1}
use Rattle.promises.specs.Groups.{NoRow, HasRow, Unconcerned, unfit-to, unfit-command, no-responder, unfit-record}
use Rattle.promises.specs.Numbers.{When2, When1, When3, When4, When8, When6, not-linked, no_record, When7, not_listed, no-group-command, no-group-row}
use Rattle.promises.specs.Numbers.{direct, cleanup, broadcast, Sound, IsCarriedOut, Line, two, one, three, four, eight, six, seven, zero}
use Rattle.promises.specs.Numbers.{Given, fits, five, NumbersGiven, NoOther, LinesHold, OneLine, ElseCarriedOut}
use Rattle.wire.specs.Asked.{command_in}
use Rattle.promises.proofs.Ruled.{deed_in, ruled, ruled_linked}
use Rattle.promises.proofs.Brings.{Comes, as_done, refuses, ends, ends_short}
use Rattle.promises.proofs.Legal.{Listed, is-listed, is-other, judged, fulfils}
use Rattle.promises.proofs.Stranger.{exempt}
use Rattle.promises.proofs.Anybody.{ruled-exempt}
use Rattle.promises.proofs.Responders.{one_decides, SomeFirst, first_or_none}
use Rattle.promises.proofs.Groups.{alters, row_or_none, no_command_no_row, broadcast_brings, cleanup_brings}
use Rattle.promises.proofs.Groups.{calls, calling, uncalled, ruled-first, ruled-unconcerned, ruled-responder, ruled-no-row, ruled-no-responder}
use Rattle.promises.proofs.Whens.{holds, apart, is_fit_lem, is_whole_lem, is_ours, is_unfit, is_unwhole, is_foreign_lem, fit, well_formed_lem}
use Rattle.promises.proofs.Whens.{Standing, at-2, at_1, at-3, at-4, as_direct, as_cleanup, as-broadcast, standing}
use Rattle.promises.proofs.Demand1.{numbered}

module _ (m : Module) (l s : List ℕ) where
  -- the rulings of 2, 1, 3 and 4
  pub ruled_2 : When2 l → ruling_of m l s ≡ silence Outcome.BadMemory
  unfolding ruling_by choose
  ruled_2 h = rw (is_unfit m l s h)

  pub ruled_1 : ¬ When2 l → When1 s → ruling_of m l s ≡ silence Outcome.BadLength
  unfolding ruling_by read_of choose
  ruled_1 a h = rw (is_fit_lem m l s a, is_unwhole m l s h)

  pub ruled_3 : ¬ When2 l → ¬ When1 s → When3 m s → ruling_of m l s ≡ silence Outcome.Foreign
  unfolding ruling_by read_of choose
  ruled_3 a b h = rw (is_fit_lem m l s a, is_whole_lem m l s b, is_foreign_lem m l s h)

  pub ruled_4 : ¬ When2 l → ¬ When1 s → ¬ When3 m s → When4 s → ruling_of m l s ≡ silence Outcome.BadSum
  unfolding ruling_by read_of choose
  ruled_4 a b c h = rw (is_fit_lem m l s a, is_whole_lem m l s b, is_ours m l s c, h)

  module _ (h : Sound m l s) where
    -- a direct command to which 6 does not apply is looked at
    looked_at : is_direct s ≡ true → ¬ When6 l s → (ruling_of m l s).plan ≡ deed_plan m (request_of s) (deed_in m l s)
    looked_at d n = go (ping_or_id s) refl (linked_or_not l (from_of s))
      where
        go : (t : Bool) → ping_or_id s ≡ t → Linked l (from_of s) ⊎ Stranger l s → (ruling_of m l s).plan ≡ deed_plan m (request_of s) (deed_in m l s)
        go true e x = ruled-exempt m l s (fit m l s h) (well_formed_lem m l s h) d e
        go false e (inl x) = ruled_linked m l s (fit m l s h) (well_formed_lem m l s h) d x
        go false e (inr x) = absurd (n (not-linked d e x))

    -- and one outside the table is not listed
    ruled-unlisted : is_direct s ≡ true → ¬ When6 l s → ((e : Effect) → ¬ Legal m l s e) → (ruling_of m l s).plan ≡ unlisted ReplyType.Nak (request_of s)
    ruled-unlisted d n none = go (judged m l s)
      where
        go : Listed m l s (deed_in m l s) → (ruling_of m l s).plan ≡ unlisted ReplyType.Nak (request_of s)
        go (is-listed e x) = absurd (none e x)
        go (is-other p) = looked_at d n ∙ ap (deed_plan m (request_of s)) p

    ruled-not-linked : is_direct s ≡ true → ping_or_id s ≡ false → Stranger l s → (ruling_of m l s).plan ≡ unlinked ReplyType.Nak (request_of s)
    ruled-not-linked d p x =
        ruled m l s (fit m l s h) (well_formed_lem m l s h) d
        ∙ stranger-plan m l (request_of s) (data_of s) (records l) (command_in s) x (exempt s ∙ p)

    -- a cleanup to which 6 does not apply has its record
    ruled-no-command : is_cleanup s ≡ true → ¬ When6 l s → ¬ GroupCommand1 s → (ruling_of m l s).plan ≡ unlisted ReplyType.CleanupNak (request_of s)
    ruled-no-command c n x = go (first_or_none l (from_of s) (command2_of s))
      where
        go : SomeFirst l (from_of s) (command2_of s) ⊎ NoResponder l (from_of s) (command2_of s)
            → (ruling_of m l s).plan ≡ unlisted ReplyType.CleanupNak (request_of s)
        go (inl r) = ruled-no-row m l s (fit m l s h) (well_formed_lem m l s h) c r.place r.decides (no_command_no_row m s (link_of (record_at l r.place)) x)
        go (inr nobody) = absurd (n (no_record c nobody))

    -- a broadcast to which 8 does not apply calls a group
    is_call : is_broadcast s ≡ true → ¬ When8 m l s → calls s (group_command_of (command1_of s)) ≡ true
    is_call b n = holds (calls s (group_command_of (command1_of s))) (λ e. (b, uncalled s unfit-to unfit-command e)) n

  -- the type of the NAK
  nak_direct : is_direct s ≡ true → (x : ℕ) → nak_of m s x ≡ standard m.identity.address (from_of s) ReplyType.Nak (hops_of s) (command1_of s) x
  unfolding choose
  nak_direct d x = rw (eqb-true (type_of s) 0 d)

  nak_cleanup : is_cleanup s ≡ true → (x : ℕ) → nak_of m s x ≡ standard m.identity.address (from_of s) ReplyType.CleanupNak (hops_of s) (command1_of s) x
  unfolding choose
  nak_cleanup c x = rw c

  -- each line comes to what it says
  comes : (n : ℕ) (e : Effect) → Line m l s n e → Comes m l s n e (ruling_of m l s).plan
  comes n e (two x) = rw (ruled_2 x) (refuses m l s Outcome.BadMemory Due.Nothing)
  comes n e (one a x) = rw (ruled_1 a x) (refuses m l s Outcome.BadLength Due.Nothing)
  comes n e (three a b x) = rw (ruled_3 a b x) (refuses m l s Outcome.Foreign Due.Nothing)
  comes n e (four a b c x) = rw (ruled_4 a b c x) (refuses m l s Outcome.BadSum Due.Nothing)
  comes n e (eight h x) = rw (ruled-unconcerned m l s (fit m l s h) (well_formed_lem m l s h) x.0 x.1) (refuses m l s Outcome.Unconcerned Due.Nothing)
  comes n e (six h u (not-linked d p x)) = rw (ruled-not-linked h d p x, nak_direct d 0xff) (refuses m l s Outcome.NotLinked _)
  comes n e (six h u (no_record c x)) =
      rw (ruled-no-responder m l s (fit m l s h) (well_formed_lem m l s h) c x, nak_cleanup c 0xff) (refuses m l s Outcome.NotLinked _)
  comes n e (seven h u a (not_listed d x)) = rw (ruled-unlisted h d a x, nak_direct d 0xfb) (refuses m l s Outcome.Unlisted _)
  comes n e (seven h u a (no-group-command c x)) = rw (ruled-no-command h c a x, nak_cleanup c 0xfb) (refuses m l s Outcome.Unlisted _)
  comes n e (seven h u a (no-group-row k c r x)) =
      rw (ruled-no-row m l s (fit m l s h) (well_formed_lem m l s h) c k r x, nak_cleanup c 0xfb) (refuses m l s Outcome.Unlisted _)
  comes n e (zero h u a b _ (direct _ d x)) = rw (looked_at h d a) (as_done m l s e _ (well_formed_lem m l s h) (fulfils m l s (well_formed_lem m l s h) e x))
  comes n e (zero h u a b _ (cleanup k next c r x)) =
      let w = well_formed_lem m l s h in
      let does = alters m s (link_of (record_at l k)) next x in
      rw (ruled-responder m l s (fit m l s h) w c k r) (as_done m l s _ _ w (cleanup_brings m l s next _ does))
  comes n e (zero h u a b _ (broadcast k next c r x)) =
      let w = well_formed_lem m l s h in
      let does = alters m s (link_of (record_at l k)) next x in
      rw (ruled-first m l s (fit m l s h) w c (is_call h c u) k r) (as_done m l s _ _ w (broadcast_brings m l s next _ does))

  -- every message has its line
  pub record HasLine : Type 0 where
    pub number : ℕ
    pub effect : Effect
    pub line : Line m l s number effect

  on : {n : ℕ} {e : Effect} → Line m l s n e → HasLine
  on x = record { number = _; effect = _; line = x }

  module _ (h : Sound m l s) where
    module _ (d : is_direct s ≡ true) where
      looked-line : ¬ When6 l s → HasLine
      looked-line n = go (judged m l s)
        where
          no-8 : ¬ When8 m l s
          no-8 x = apart s 0 6 refl d x.0

          -- what comes to a deed that is not listed is no row
          no_row : deed_in m l s ≡ Deed.Unlisted → (e : Effect) → ¬ Legal m l s e
          no_row p e x = let z : ◌≡◌ {A = ℕ} 7 0 = rw p at (fulfils m l s (well_formed_lem m l s h) e x).done in omega arith

          go : Listed m l s (deed_in m l s) → HasLine
          go (is-listed e x) = on (zero h no-8 n no-7 e (direct e d x))
            where
              no-7 : ¬ When7 m l s
              no-7 (not_listed q none) = none e x
              no-7 (no-group-command c q) = apart s 0 2 refl d c
              no-7 (no-group-row k c r q) = apart s 0 2 refl d c
          go (is-other p) = on (seven h no-8 n (not_listed d (no_row p)))

      direct-line : HasLine
      direct-line = go (ping_or_id s) refl (linked_or_not l (from_of s))
        where
          no-6 : (ping_or_id s ≡ true) ⊎ Linked l (from_of s) → ¬ When6 l s
          no-6 (inl e) (not-linked q p x) = clash e p
          no-6 (inr i) (not-linked q p x) = x i
          no-6 o (no_record c x) = apart s 0 2 refl d c

          go : (t : Bool) → ping_or_id s ≡ t → Linked l (from_of s) ⊎ Stranger l s → HasLine
          go true e x = looked-line (no-6 (inl e))
          go false e (inl x) = looked-line (no-6 (inr x))
          go false e (inr x) = on (six h (λ y. apart s 0 6 refl d y.0) (not-linked d e x))

    module _ (c : is_cleanup s ≡ true) where
      cleanup-line : HasLine
      cleanup-line = go (first_or_none l (from_of s) (command2_of s))
        where
          no-8 : ¬ When8 m l s
          no-8 x = apart s 2 6 refl c x.0

          no-6 : SomeFirst l (from_of s) (command2_of s) → ¬ When6 l s
          no-6 r (not-linked d p x) = apart s 2 0 refl c d
          no-6 r (no_record q x) = x r.place r.decides.responder

          no-7 : (r : SomeFirst l (from_of s) (command2_of s)) → HasRow m s (link_of (record_at l r.place)) → ¬ When7 m l s
          no-7 r x (not_listed d q) = apart s 2 0 refl c d
          no-7 r x (no-group-command q g) = no_command_no_row m s _ g x.next x.row
          no-7 r x (no-group-row k q f none) =
              let y = one_decides l (from_of s) (command2_of s) r.place k r.decides f (HasRow m s) x in
              none y.next y.row

          decided : (r : SomeFirst l (from_of s) (command2_of s))
              → HasRow m s (link_of (record_at l r.place)) ⊎ NoRow m s (link_of (record_at l r.place)) → HasLine
          decided r (inl x) = on (zero h no-8 (no-6 r) (no-7 r x) _ (cleanup r.place x.next c r.decides x.row))
          decided r (inr none) = on (seven h no-8 (no-6 r) (no-group-row r.place c r.decides none))

          go : SomeFirst l (from_of s) (command2_of s) ⊎ NoResponder l (from_of s) (command2_of s) → HasLine
          go (inl r) = decided r (row_or_none m s (link_of (record_at l r.place)))
          go (inr nobody) = on (six h no-8 (no_record c nobody))

    module _ (b : is_broadcast s ≡ true) where
      broadcast-line : HasLine
      broadcast-line = go (calls s (group_command_of (command1_of s))) refl (first_or_none l (from_of s) (to_of s).low)
        where
          no-8 : calls s (group_command_of (command1_of s)) ≡ true → (r : SomeFirst l (from_of s) (to_of s).low)
              → HasRow m s (link_of (record_at l r.place)) → ¬ Unconcerned m l s
          no-8 e r x (unfit-to q) = q (calling s e).0
          no-8 e r x (unfit-command q) = q (calling s e).1
          no-8 e r x (no-responder q) = q r.place r.decides.responder
          no-8 e r x (unfit-record k f none) =
              let y = one_decides l (from_of s) (to_of s).low r.place k r.decides f (HasRow m s) x in
              none y.next y.row

          no-6 : ¬ When6 l s
          no-6 (not-linked d p x) = apart s 6 0 refl b d
          no-6 (no_record c x) = apart s 6 2 refl b c

          no-7 : ¬ When7 m l s
          no-7 (not_listed d x) = apart s 6 0 refl b d
          no-7 (no-group-command c x) = apart s 6 2 refl b c
          no-7 (no-group-row k c r x) = apart s 6 2 refl b c

          decided : calls s (group_command_of (command1_of s)) ≡ true → (r : SomeFirst l (from_of s) (to_of s).low)
              → HasRow m s (link_of (record_at l r.place)) ⊎ NoRow m s (link_of (record_at l r.place)) → HasLine
          decided e r (inl x) = on (zero h (λ y. no-8 e r x y.1) no-6 no-7 _ (broadcast r.place x.next b r.decides x.row))
          decided e r (inr none) = on (eight h (b, unfit-record r.place r.decides none))

          go : (t : Bool) → calls s (group_command_of (command1_of s)) ≡ t
              → SomeFirst l (from_of s) (to_of s).low ⊎ NoResponder l (from_of s) (to_of s).low → HasLine
          go false e x = on (eight h (b, uncalled s unfit-to unfit-command e))
          go true e (inr nobody) = on (eight h (b, no-responder nobody))
          go true e (inl r) = decided e r (row_or_none m s (link_of (record_at l r.place)))

  pub has_line : HasLine
  has_line = go (standing m l s)
    where
      go : Standing m l s → HasLine
      go (at-2 x) = on (two x)
      go (at_1 a x) = on (one a x)
      go (at-3 a b x) = on (three a b x)
      go (at-4 a b c x) = on (four a b c x)
      go (as_direct h d) = direct-line h d
      go (as_cleanup h c) = cleanup-line h c
      go (as-broadcast h b) = broadcast-line h b

-- where 2, 1, 3, 4, 8, 6 and 7 do not apply, its line is that of 0
pub else_carried_out : ElseCarriedOut
else_carried_out m l s h no-8 no-6 no-7 = go (has_line m l s).line
  where
    go : {n : ℕ} {e : Effect} → Line m l s n e → IsCarriedOut m l s
    go (two x) = absurd (h.fit x)
    go (one a x) = absurd (h.whole x)
    go (three a b x) = absurd (h.ours x)
    go (four a b c x) = absurd (h.right x)
    go (eight _ x) = absurd (no-8 x)
    go (six _ a x) = absurd (no-6 x)
    go (seven _ a b x) = absurd (no-7 x)
    go (zero _ a b c e x) = record { effect = e; row = x }

pub one_line : OneLine
one_line m l s n k e f x y =
    let a = comes m l s n e x in
    let b = comes m l s k f y in (
      sym a.number ∙ b.number,
      λ i. record { next = (sym a.next ∙ b.next) i; links = (sym a.links ∙ b.links) i; reply = (sym a.reply ∙ b.reply) i },
    )

pub lines_hold : LinesHold
lines_hold m l s room n e x =
    let c = comes m l s n e x in
    record { due = c.reply; fitting = λ enough. ends m l s room n e enough c; short = λ less. ends_short m l s room n e less c }

pub numbers_given : NumbersGiven
numbers_given m l s room n = (to, from n)
  where
    from : (n : ℕ) → Given m l s room n → number_of (step_of m l s room).outcome ≡ n
    from n (fits _ e x enough) = ((lines_hold m l s room n e x).fitting enough).result
    from n (five k e x less) = ((lines_hold m l s room k e x).short less).result

    mine : HasLine m l s
    mine = has_line m l s

    go : (t : Bool) → ltb (length room) (length mine.effect.reply) ≡ t → Given m l s room (number_of (step_of m l s room).outcome)
    go true q =
        let less = ltb-true (length room) (length mine.effect.reply) q in
        rw ((lines_hold m l s room mine.number mine.effect mine.line).short less).result (five mine.number mine.effect mine.line less)
    go false q =
        let enough = ltb-false (length room) (length mine.effect.reply) q in
        rw ((lines_hold m l s room mine.number mine.effect mine.line).fitting enough).result (fits mine.number mine.effect mine.line enough)

    to : number_of (step_of m l s room).outcome ≡ n → Given m l s room n
    to e = rw e at (go (ltb (length room) (length mine.effect.reply)) refl)

pub no_other : NoOther
no_other m l s room n x = rw ((numbers_given m l s room n).1 x) at (numbered m l s room)

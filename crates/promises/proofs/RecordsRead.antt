-- As many records are read as the places of records say.
use Prim.Native.Nat.{ℕ}
use mathlib.Core.Path.{◌≡◌, refl, sym, ◌∙◌}
use mathlib.Core.Bool.{Bool, true, false}
use mathlib.Core.List.{List}
use Rattle.std.specs.Prelude.{Some}
use Rattle.basis.specs.Choice.{choose}
use Rattle.basis.proofs.Tests.{clash}
use Rattle.basis.proofs.First.{one_first}
use Rattle.wire.specs.Bytes.{from_of, to_of, command1_of, command2_of}
use Rattle.wire.specs.Commands.{group_command_of}
use Rattle.wire.specs.Kinds.{is_direct, is_cleanup, is_broadcast}
use Rattle.links.specs.declared.search.Wanted.{Wanted}
use Rattle.links.specs.declared.search.Searched.{Searched}
use Rattle.links.specs.Record.{record_at, is_end_mark}
use Rattle.links.specs.Live.{FirstUnused}
use Rattle.links.specs.Search.{search_of}
use Rattle.links.specs.Settled.{LiveMatch, Settled, matched, ended, exhausted}
use Rattle.links.proofs.Settled.{settled}
use Rattle.module.specs.declared.state.Module.{Module}
use Rattle.decide.specs.Ruling.{ruling_of}
use Rattle.promises.specs.Demand3.{ping_or_id}
use Rattle.wire.specs.Asked.{GroupCommand1}
use Rattle.promises.specs.Groups.{ToGroup}
use Rattle.promises.specs.Numbers.{Sound}
use Rattle.promises.specs.RecordsRead.{Sought, of-sender, of-cleanup, of-broadcast, Reads, none, matching, end_mark, all, RecordsRead}
use Rattle.promises.specs.RecordsRead.{NoSearch, ping-or-id, result-1, result-2, result-3, result-4, unfit-to, unfit-command}
use Rattle.promises.proofs.Ruled.{direct_ruling, cleanup_ruling, broadcast_ruling, read_by, unread}
use Rattle.promises.proofs.Stranger.{exempt}
use Rattle.promises.proofs.Responders.{as_match, as_responder}
use Rattle.promises.proofs.Groups.{calls, calling, uncalled}
use Rattle.promises.proofs.Whens.{apart, fit, well_formed_lem, Standing, at-2, at_1, at-3, at-4, as_direct, as_cleanup, as-broadcast, standing}
use Rattle.promises.proofs.Numbers.{ruled_2, ruled_1, ruled_3, ruled_4}

-- one count
module _ (m : Module) (l s : List ℕ) where
  one_mark : (j k : ℕ) → FirstUnused l j → FirstUnused l k → j ≡ k
  one_mark j k x y =
      one_first (λ (i : ℕ). is_end_mark (record_at l i) ≡ true) j k x.unused (λ i h e. clash e (x.before i h)) y.unused (λ i h e. clash e (y.before i h))

  one_count : (a b : ℕ) → Reads m l s a → Reads m l s b → a ≡ b
  one_count a b (none x) (none y) = refl
  one_count a b (none x) (matching n k y z) = absurd (n x)
  one_count a b (none x) (end_mark n k y z) = absurd (n x)
  one_count a b (none x) (all n y z) = absurd (n x)
  one_count a b (matching n j x v) (none y) = absurd (n y)
  one_count a b (matching n j x v) (matching _ k y z) = rw (one_first (Sought l s) j k x v y z)
  one_count a b (matching n j x v) (end_mark _ k y z) = absurd (z j x)
  one_count a b (matching n j x v) (all _ y z) = absurd (z j x)
  one_count a b (end_mark n j x v) (none y) = absurd (n y)
  one_count a b (end_mark n j x v) (matching _ k y z) = absurd (v k y)
  one_count a b (end_mark n j x v) (end_mark _ k y z) = rw (one_mark j k x y)
  one_count a b (end_mark n j x v) (all _ y z) = clash x.unused (y j x.inside)
  one_count a b (all n x v) (none y) = absurd (n y)
  one_count a b (all n x v) (matching _ k y z) = absurd (v k y)
  one_count a b (all n x v) (end_mark _ k y z) = clash y.unused (x k y.inside)
  one_count a b (all n x v) (all _ y z) = refl

  -- a search for what the message looks for
  by_search : (w : Wanted) → ((k : ℕ) → LiveMatch l w k → Sought l s k) → ((k : ℕ) → Sought l s k → LiveMatch l w k) → ¬ NoSearch m l s
      → Reads m l s (search_of l (Some w)).read
  by_search w to from n = go (search_of l (Some w)) (settled l w)
    where
      go : (f : Searched) → Settled l w f → Reads m l s f.read
      go f (matched k x before) = matching n k (to k x) (λ j h y. before j h (from j y))
      go f (ended k x no-match) = end_mark n k x (λ j y. no-match j (from j y))
      go f (exhausted x no-match) = all n x (λ j y. no-match j (from j y))

  module _ (h : Sound m l s) where
    -- by its type, where none of 1 to 4 applies
    searched : ¬ ((is_direct s ≡ true) × (ping_or_id s ≡ true)) → (is_broadcast s ≡ true → ToGroup s × GroupCommand1 s) → ¬ NoSearch m l s
    searched p q (ping-or-id d e) = p (d, e)
    searched p q (result-1 x) = h.whole x
    searched p q (result-2 x) = h.fit x
    searched p q (result-3 x) = h.ours x
    searched p q (result-4 x) = h.right x
    searched p q (unfit-to b x) = x (q b).0
    searched p q (unfit-command b x) = x (q b).1

    module _ (d : is_direct s ≡ true) where
      direct-read : ping_or_id s ≡ false → (ruling_of m l s).read ≡ (search_of l (Some (Wanted.Sender (from_of s)))).read
      unfolding choose
      direct-read e = rw (direct_ruling m l s (fit m l s h) (well_formed_lem m l s h) d, exempt s, e)

      direct-reads : (t : Bool) → ping_or_id s ≡ t → Reads m l s (ruling_of m l s).read
      direct-reads true e = rw (unread m l s (fit m l s h) (well_formed_lem m l s h) d (exempt s ∙ e)) (none (ping-or-id d e))
      direct-reads false e = rw (direct-read e) (by_search (Wanted.Sender (from_of s)) to from (searched (λ x. clash x.1 e) (λ b. apart s 0 6 refl d b)))
        where
          to : (k : ℕ) → LiveMatch l (Wanted.Sender (from_of s)) k → Sought l s k
          to k x = of-sender d x.live x.wanted

          from : (k : ℕ) → Sought l s k → LiveMatch l (Wanted.Sender (from_of s)) k
          from k (of-sender _ x y) = record { live = x; wanted = y }
          from k (of-cleanup c x) = apart s 0 2 refl d c
          from k (of-broadcast b x) = apart s 0 6 refl d b

    module _ (c : is_cleanup s ≡ true) where
      cleanup-read : (ruling_of m l s).read ≡ (search_of l (Some (Wanted.Responder (from_of s) (command2_of s)))).read
      cleanup-read = rw (cleanup_ruling m l s (fit m l s h) (well_formed_lem m l s h) c)

      cleanup-reads : Reads m l s (ruling_of m l s).read
      cleanup-reads =
          rw cleanup-read
          (by_search (Wanted.Responder (from_of s) (command2_of s)) to from (searched (λ x. apart s 2 0 refl c x.0) (λ b. apart s 2 6 refl c b)))
        where
          to : (k : ℕ) → LiveMatch l (Wanted.Responder (from_of s) (command2_of s)) k → Sought l s k
          to k x = of-cleanup c (as_responder l (from_of s) (command2_of s) k x)

          from : (k : ℕ) → Sought l s k → LiveMatch l (Wanted.Responder (from_of s) (command2_of s)) k
          from k (of-sender d x y) = apart s 2 0 refl c d
          from k (of-cleanup _ x) = as_match l (from_of s) (command2_of s) k x
          from k (of-broadcast b x) = apart s 2 6 refl c b

    module _ (b : is_broadcast s ≡ true) where
      call-read : calls s (group_command_of (command1_of s)) ≡ true → (ruling_of m l s).read ≡ (search_of l (Some (Wanted.Responder (from_of s) (to_of s).low))).read
      unfolding choose
      call-read e = rw (broadcast_ruling m l s (fit m l s h) (well_formed_lem m l s h) b, e)

      no-call-read : calls s (group_command_of (command1_of s)) ≡ false → (ruling_of m l s).read ≡ 0
      unfolding choose
      no-call-read e = rw (broadcast_ruling m l s (fit m l s h) (well_formed_lem m l s h) b, e)

      broadcast-reads : (t : Bool) → calls s (group_command_of (command1_of s)) ≡ t → Reads m l s (ruling_of m l s).read
      broadcast-reads true e =
          rw (call-read e)
          (by_search (Wanted.Responder (from_of s) (to_of s).low) to from (searched (λ x. apart s 6 0 refl b x.0) (λ _. calling s e)))
        where
          to : (k : ℕ) → LiveMatch l (Wanted.Responder (from_of s) (to_of s).low) k → Sought l s k
          to k x = of-broadcast b (as_responder l (from_of s) (to_of s).low k x)

          from : (k : ℕ) → Sought l s k → LiveMatch l (Wanted.Responder (from_of s) (to_of s).low) k
          from k (of-sender d x y) = apart s 6 0 refl b d
          from k (of-cleanup c x) = apart s 6 2 refl b c
          from k (of-broadcast _ x) = as_match l (from_of s) (to_of s).low k x
      broadcast-reads false e = rw (no-call-read e) (none (uncalled s (unfit-to b) (unfit-command b) e))

  reads : Reads m l s (ruling_of m l s).read
  reads = go (standing m l s)
    where
      go : Standing m l s → Reads m l s (ruling_of m l s).read
      go (at-2 x) = rw (ruled_2 m l s x) (none (result-2 x))
      go (at_1 a x) = rw (ruled_1 m l s a x) (none (result-1 x))
      go (at-3 a b x) = rw (ruled_3 m l s a b x) (none (result-3 x))
      go (at-4 a b c x) = rw (ruled_4 m l s a b c x) (none (result-4 x))
      go (as_direct h d) = direct-reads h d (ping_or_id s) refl
      go (as_cleanup h c) = cleanup-reads h c
      go (as-broadcast h b) = broadcast-reads h b (calls s (group_command_of (command1_of s))) refl

pub records_read : RecordsRead
records_read m l s room n = (λ e. rw (sym (read_by m l s room) ∙ e) at (reads m l s), λ x. read_by m l s room ∙ one_count m l s _ n (reads m l s) x)

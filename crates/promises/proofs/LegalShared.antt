-- The rows that every kind has: a legal command brings its effect about, and any other is not listed.
use Prim.Native.Nat.{ℕ, zero, suc, ◌+◌, ◌/◌, ◌%◌, ◌≤◌, ◌<◌}
use mathlib.Core.Path.{◌≡◌, refl, sym, ◌∙◌, ap}
use mathlib.Core.Bool.{Bool, true, false}
use mathlib.Core.List.{List, ◌++◌}
use native.Mathlib.Omega.{arith}
use lib.Dec.{eqb}
use lib.ListN.{length, take, drop, length-take}
use lib.Seq.{drop-drop}
use borrow.Author.Tests.{le-leb, eq-eqb, ne_eqb, eqb-true, eqb-false}
use Rattle.std.specs.Prelude.{Option, Some, None}
use Rattle.basis.specs.Choice.{choose}
use Rattle.basis.specs.Flags.{flagged}
use Rattle.basis.proofs.Choice.{by}
use Rattle.basis.proofs.Spelled.{spelled_from}
use Rattle.wire.specs.declared.command.Standard.{Standard}
use Rattle.wire.specs.declared.command.OpenCommand.{OpenCommand}
use Rattle.wire.specs.declared.command.ModuleCommand.{ModuleCommand}
use Rattle.wire.specs.declared.command.Extended.{Extended}
use Rattle.wire.specs.declared.command.Command.{Command}
use Rattle.wire.specs.Bytes.{from_of, hops_of, command1_of, command2_of, request_of, data_at, data_of, is_extended, is_whole}
use Rattle.wire.specs.Commands.{standards, extendeds}
use Rattle.wire.specs.Asked.{Short, command_in}
use Rattle.wire.proofs.CommandBytes.{Told, to-anybody, to-module, to-load, ToldLong, to-set-flags, to-properties, to-database, long-to-load}
use Rattle.wire.proofs.CommandBytes.{by_command, short_command, long_command}
use Rattle.wire.proofs.Whole.{by_length}
use Rattle.links.specs.Record.{records}
use Rattle.links.specs.Name.{place_of}
use Rattle.links.specs.Write.{written, written_if_there}
use Rattle.links.proofs.Written
use Rattle.reply.specs.Records.{records_from, count_sent}
use Rattle.reply.proofs.Positions.{counted, only}
use Rattle.module.specs.declared.state.Module.{Module}
use Rattle.module.specs.declared.deed.Deed.{Deed}
use Rattle.module.specs.Deed.{limited}
use Rattle.module.specs.Plan.{deed_plan}
use Rattle.module.proofs.Limited.{by_limits}
use Rattle.shared.specs.Standard.{flags_told, standard_deed}
use Rattle.shared.specs.Extended.{flags_deed, property_deed, properties_deed, get_deed, set_deed, record_deed, database_deed, extended_deed}
use Rattle.shared.specs.Table.{shared_deed}
use Rattle.promises.specs.Legal.{Effect, shows, upward, Shared, ping, id-request, engine-version, flags, delta, beep}
use Rattle.promises.specs.Legal.{set-flag, clear-flag, set-x10, set-led, get-database, set-database}
use Rattle.promises.proofs.Brings.{Brings}
use Rattle.promises.proofs.Names.{address, is_there, names_record, is_named}

module _ (m : Module) (l s : List ℕ) where
  abbrev deed : Command → Deed
  deed command = shared_deed m (request_of s) (data_of s) (records l) command

  -- the records are laid one by one
  as_upward : (n k : ℕ) → records_from m.identity.address (from_of s) (hops_of s) (data_at s 1) l n k ≡ upward m l s n k
  unfolding records_from upward
  as_upward zero k = refl
  as_upward (suc n) k = ap (λ (z : List ℕ). shows m l s k ++ z) (as_upward n (k + 1))

  module _ (w : is_whole s ≡ true) where
    -- an extended message's data bytes are those from place 9 on
    data-bytes : is_extended s ≡ true → drop 5 (data_of s) ≡ drop 14 s
    data-bytes x =
        let long : length s ≡ 23 = eqb-true (length s) 23 (sym (by_length s w) ∙ x) in
        ap (λ (d : List ℕ). drop 5 d) (spelled_from 14 9 s (omega arith)) ∙ drop-drop 5 9 s

    write-there : (k : ℕ) → is_extended s ≡ true → k < records l → data_at s 5 ≤ 8
        → written_if_there l k (take (data_at s 5) (drop 5 (data_of s))) ≡ written l k (take (data_at s 5) (drop 14 s))
    write-there k x y z =
        ap (λ (b : List ℕ). written_if_there l k (take (data_at s 5) b)) (data-bytes x)
        ∙ Written.legal l k (take (data_at s 5) (drop 14 s)) y (rw length-take (omega arith))

    pub shared-brings : (e : Effect) → Shared m l s e → Brings m l s e (deed_plan m (request_of s) (deed (command_in s)))
    unfolding standards extendeds choose flags_told limited property_deed properties_deed record_deed database_deed flagged
    shared-brings e (ping x) = rw (short_command s 0x0f x) (record { done = refl; next = refl; links = refl; reply = refl })
    shared-brings e (id-request x) = rw (short_command s 0x10 x) (record { done = refl; next = refl; links = refl; reply = refl })
    shared-brings e (engine-version x) = rw (short_command s 0x0d x) (record { done = refl; next = refl; links = refl; reply = refl })
    shared-brings e (flags x y) = rw (short_command s 0x1f x, y) (record { done = refl; next = refl; links = refl; reply = refl })
    shared-brings e (delta x y) = rw (short_command s 0x1f x, y) (record { done = refl; next = refl; links = refl; reply = refl })
    shared-brings e (beep x) = rw (short_command s 0x30 x) (record { done = refl; next = refl; links = refl; reply = refl })
    shared-brings e (set-flag x b y z) =
        let t = command2_of s in
        let half : t / 2 ≡ b = omega arith in
        rw (long_command s 0x20 x, le-leb 0x00 t (omega arith), le-leb t 0x0f (omega arith), eq-eqb (t % 2) 0 (omega arith), half)
        (record { done = refl; next = refl; links = refl; reply = refl })
    shared-brings e (clear-flag x b y z) =
        let t = command2_of s in
        let half : t / 2 ≡ b = omega arith in
        rw (long_command s 0x20 x, le-leb 0x00 t (omega arith), le-leb t 0x0f (omega arith), ne_eqb (t % 2) 0 (omega arith), half)
        (record { done = refl; next = refl; links = refl; reply = refl })
    shared-brings e (set-x10 x) = rw (long_command s 0x2e x.0, x.1, x.2) (record { done = refl; next = refl; links = refl; reply = refl })
    shared-brings e (set-led x y z) =
        rw (long_command s 0x2e x.0, x.1, x.2, le-leb 0x11 (data_at s 3) y, le-leb (data_at s 3) 0x7f z)
        (record { done = refl; next = refl; links = refl; reply = refl })
    shared-brings e (get-database x k y n z) =
        let all : count_sent l k (data_at s 5) ≡ n = only l k (data_at s 5) _ n (counted l k (data_at s 5) (is_there l s k y)) z in
        rw (long_command s 0x2f x.0, x.1, x.2, names_record l s k y) (record { done = refl; next = refl; links = refl; reply = rw (all, as_upward n k) })
    shared-brings e (set-database x k y z v) =
        rw (long_command s 0x2f x.0, x.1, x.2, names_record l s k y, le-leb 1 (data_at s 5) z, le-leb (data_at s 5) 8 v)
        (record { done = refl; next = refl; links = write-there k x.0.0 (is_there l s k y) v; reply = refl })

  -- a command is a row, or it is not listed
  pub data SharedJudged (deed : Deed) : Type 0 where
    listed : (e : Effect) → Shared m l s e → SharedJudged deed
    other : deed ≡ Deed.Unlisted → SharedJudged deed

  module _ (x : is_extended s ≡ false) where
    told-judged : Short s 0x1f → SharedJudged (flags_told m (command2_of s))
    unfolding flags_told
    told-judged y =
        by SharedJudged (eqb (command2_of s) 0x00) (λ e. listed _ (flags y (eqb-true _ 0x00 e)))
        (λ _. by SharedJudged (eqb (command2_of s) 0x01) (λ e. listed _ (delta y (eqb-true _ 0x01 e)))
        (λ _. other refl))

    short-judged : (command : Standard) → Told (command1_of s) command → SharedJudged (standard_deed m (request_of s) command)
    short-judged _ (to-anybody OpenCommand.Ping e) = listed _ (ping (x, e))
    short-judged _ (to-anybody OpenCommand.IdRequest e) = listed _ (id-request (x, e))
    short-judged _ (to-module ModuleCommand.EngineVersion e) = listed _ (engine-version (x, e))
    short-judged _ (to-module ModuleCommand.ReadFlags e) = told-judged (x, e)
    short-judged _ (to-module ModuleCommand.Beep e) = listed _ (beep (x, e))
    short-judged _ to-load = other refl

  module _ (x : is_extended s ≡ true) where
    flag-judged : command1_of s ≡ 0x20 → SharedJudged (flags_deed m (command2_of s))
    flag-judged y = by_limits SharedJudged 0x00 0x0f (command2_of s) _ (λ a b. go b (eqb (command2_of s % 2) 0) refl) (other refl)
      where
        go : {deed : Deed} → command2_of s ≤ 0x0f → (t : Bool) → eqb (command2_of s % 2) 0 ≡ t → SharedJudged deed
        go b true e = let even : command2_of s % 2 ≡ 0 = eqb-true _ 0 e in listed _ (set-flag (x, y) (command2_of s / 2) (omega arith) (omega arith))
        go b false e = listed _ (clear-flag (x, y) (command2_of s / 2) (omega arith) (omega (arith, eqb-false (command2_of s % 2) 0 e)))

    module _ (y : command1_of s ≡ 0x2e) where
      property-judged : command2_of s ≡ 0x00 → SharedJudged (property_deed (data_of s))
      unfolding property_deed
      property-judged z =
          by SharedJudged _ (λ e. listed _ (set-x10 ((x, y), z, eqb-true _ 0x04 e)))
          (λ _. by SharedJudged _ (λ e. by_limits SharedJudged 0x11 0x7f (data_at s 3) _
          (λ a b. listed _ (set-led ((x, y), z, eqb-true _ 0x07 e) a b)) (other refl))
          (λ _. other refl))

      properties-judged : SharedJudged (properties_deed (request_of s) (data_of s))
      unfolding properties_deed
      properties-judged = by SharedJudged (eqb (command2_of s) 0x00) (λ e. property-judged (eqb-true _ 0x00 e)) (λ _. other refl)

    module _ (y : command1_of s ≡ 0x2f) where
      get-judged : command2_of s ≡ 0x00 → data_at s 2 ≡ 0x00 → (place : Option ℕ) → place_of (records l) (address l s) ≡ place → SharedJudged (get_deed (data_of s) place)
      get-judged z w (Some k) e =
          let it = is_named l s k e in
          listed _ (get-database ((x, y), z, w) k it _ (counted l k (data_at s 5) (is_there l s k it)))
      get-judged z w None e = other refl

      set-judged : command2_of s ≡ 0x00 → data_at s 2 ≡ 0x02 → (place : Option ℕ) → place_of (records l) (address l s) ≡ place → SharedJudged (set_deed (data_of s) place)
      set-judged z w (Some k) e =
          by_limits SharedJudged 1 8 (data_at s 5) _
          (λ a b. listed _ (set-database ((x, y), z, w) k (is_named l s k e) a b)) (other refl)
      set-judged z w None e = other refl

      record-judged : command2_of s ≡ 0x00 → SharedJudged (record_deed (data_of s) (records l))
      unfolding record_deed
      record-judged z =
          by SharedJudged (eqb (data_at s 2) 0x00) (λ e. get-judged z (eqb-true _ 0x00 e) (place_of (records l) (address l s)) refl)
          (λ _. by SharedJudged (eqb (data_at s 2) 0x02) (λ e. set-judged z (eqb-true _ 0x02 e) (place_of (records l) (address l s)) refl)
          (λ _. other refl))

      database-judged : SharedJudged (database_deed (request_of s) (data_of s) (records l))
      unfolding database_deed
      database-judged = by SharedJudged (eqb (command2_of s) 0x00) (λ e. record-judged (eqb-true _ 0x00 e)) (λ _. other refl)

    long-judged : (command : Extended) → ToldLong (command1_of s) command → SharedJudged (extended_deed m (request_of s) (data_of s) (records l) command)
    long-judged _ (to-set-flags e) = flag-judged e
    long-judged _ (to-properties e) = properties-judged e
    long-judged _ (to-database e) = database-judged e
    long-judged _ long-to-load = other refl

  pub shared_judged : SharedJudged (deed (command_in s))
  shared_judged = by_command s (λ (command : Command). SharedJudged (deed command)) long-judged short-judged

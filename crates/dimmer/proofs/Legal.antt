-- A legal command is what the table says, and any other is not listed or is as every kind has it.
use Prim.Native.Nat.{ℕ}
use mathlib.Core.Path.{◌≡◌, refl}
use mathlib.Core.Bool.{true, false}
use mathlib.Core.List.{List}
use lib.Dec.{eqb, leb}
use borrow.Author.Tests.{le-leb, eqb-true, leb-true}
use Rattle.basis.specs.Choice.{choose}
use Rattle.basis.proofs.Choice.{by}
use Rattle.basis.proofs.Table.{◌or◌, by_rows}
use Rattle.wire.specs.declared.command.Standard.{Standard}
use Rattle.wire.specs.declared.command.Extended.{Extended}
use Rattle.wire.specs.declared.command.Command.{Command}
use Rattle.wire.specs.Bytes.{command1_of, command2_of, request_of, data_at, data_of, is_extended}
use Rattle.wire.specs.Commands.{standards, extendeds}
use Rattle.wire.specs.Asked.{Short, Asks, command_in}
use Rattle.wire.proofs.CommandBytes.{Told, to-anybody, to-module, to-load, ToldLong, to-set-flags, to-properties, to-database, long-to-load}
use Rattle.wire.proofs.CommandBytes.{by_command, short_command, long_command}
use Rattle.load.specs.declared.entry.Entry.{Entry}
use Rattle.load.specs.declared.entry.LoadEntry.{LoadEntry}
use Rattle.load.specs.Table.{properties_entry, standard_entry, extended_entry}
use Rattle.load.specs.Judged.{Judged, listed, other, left, Leaves}
use Rattle.load.specs.declared.state.Lamp.{Lamp}
use Rattle.dimmer.specs.Load.{statuses, status_entry, percent_entry, load_rows, load_entry}
use Rattle.dimmer.specs.Properties.{ramp_entry, property_rows, property_entry}
use Rattle.dimmer.specs.Table.{own, entry_of}
use Rattle.dimmer.specs.Legal.{Dimmer, on, on-fast, instant, off, off-fast, brighten, dim, status, status-percent}
use Rattle.dimmer.specs.Legal.{on-at-ramp, off-at-ramp, percent, get-properties, set-ramp, set-on-level}

module _ (lamp : Lamp) (s : List ℕ) where
  abbrev pub answer : Command → LoadEntry Lamp
  answer command = entry_of lamp (request_of s) (data_of s) command

  pub says : (x : Lamp) (e : Entry) → Dimmer lamp s x e → answer (command_in s) ≡ record { load = x; entry = e }
  unfolding standards extendeds choose status_entry percent_entry load_entry ramp_entry property_entry properties_entry
  says x e (on h) = rw (short_command s 0x11 h, h.1)
  says x e (on-fast h) = rw (short_command s 0x12 h, h.1)
  says x e (instant h) = rw (short_command s 0x21 h, h.1)
  says x e (off h) = rw (short_command s 0x13 h, h.1)
  says x e (off-fast h) = rw (short_command s 0x14 h, h.1)
  says x e (brighten h) = rw (short_command s 0x15 h, h.1)
  says x e (dim h) = rw (short_command s 0x16 h, h.1)
  says x e (status h y) = rw (short_command s 0x19 h, h.1, y)
  says x e (status-percent h y) = rw (short_command s 0x19 h, h.1, y)
  says x e (on-at-ramp h) = rw (short_command s 0x2e h, h.1)
  says x e (off-at-ramp h) = rw (short_command s 0x2f h, h.1)
  says x e (percent h y) = rw (short_command s 0x39 h, h.1, le-leb (command2_of s) 0x64 y)
  says x e (get-properties h) = rw (long_command s 0x2e h.0, h.1, h.2)
  says x e (set-ramp h y) = rw (long_command s 0x2e h.0, h.1, h.2, le-leb (data_at s 3) 0x1f y)
  says x e (set-on-level h) = rw (long_command s 0x2e h.0, h.1, h.2)

  pub leaves : Leaves s (λ (command : Command). (answer command).entry)
  unfolding choose property_entry properties_entry
  leaves = record { opens = λ _. refl; modules = λ _. refl; set-flags = refl; x10 = λ y z. rw (y, z); led = λ y z. rw (y, z); database = refl }

  abbrev Fits : LoadEntry Lamp → Type 0
  Fits x = Judged (Dimmer lamp s) x.load x.entry

  module _ (x : is_extended s ≡ false) where
    status-judged : Short s 0x19 → Fits (status_entry lamp (command2_of s))
    unfolding status_entry
    status-judged y = by_rows Fits (command2_of s) _ (statuses lamp) ((λ e. listed (status y e)) or (λ e. listed (status-percent y e)) or tt) (other refl)

    percent-judged : Short s 0x39 → Fits (percent_entry lamp (command2_of s))
    unfolding percent_entry
    percent-judged y = by Fits (leb (command2_of s) 0x64) (λ e. listed (percent y (leb-true _ 0x64 e))) (λ _. other refl)

    load-judged : Fits (load_entry lamp (request_of s))
    unfolding load_entry
    load-judged =
        by_rows Fits (command1_of s) _ (load_rows lamp (command2_of s))
        ((λ e. listed (on (x, e)))
        or (λ e. listed (on-fast (x, e)))
        or (λ e. listed (instant (x, e)))
        or (λ e. listed (off (x, e)))
        or (λ e. listed (off-fast (x, e)))
        or (λ e. listed (brighten (x, e)))
        or (λ e. listed (dim (x, e)))
        or (λ e. status-judged (x, e))
        or (λ e. listed (on-at-ramp (x, e)))
        or (λ e. listed (off-at-ramp (x, e)))
        or (λ e. percent-judged (x, e))
        or tt)
        (other refl)

    short-judged : (command : Standard) → Told (command1_of s) command → Fits (standard_entry own lamp (request_of s) command)
    short-judged _ (to-anybody command e) = left refl
    short-judged _ (to-module command e) = left refl
    short-judged _ to-load = load-judged

  module _ (x : is_extended s ≡ true) where
    ramp-judged : Asks s 0x2e 0x05 → Fits (ramp_entry lamp (data_at s 3))
    unfolding ramp_entry
    ramp-judged y = by Fits (leb (data_at s 3) 0x1f) (λ e. listed (set-ramp y (leb-true _ 0x1f e))) (λ _. other refl)

    property-judged : command1_of s ≡ 0x2e → command2_of s ≡ 0x00 → Fits (property_entry lamp (data_of s))
    unfolding property_entry
    property-judged y z =
        by_rows Fits (data_at s 2) _ (property_rows lamp (data_of s))
        ((λ e. listed (get-properties ((x, y), z, e))) or (λ e. ramp-judged ((x, y), z, e)) or (λ e. listed (set-on-level ((x, y), z, e))) or tt)
        (left refl)

    properties-judged : command1_of s ≡ 0x2e → Fits (properties_entry own lamp (request_of s) (data_of s))
    unfolding properties_entry
    properties-judged y = by Fits (eqb (command2_of s) 0x00) (λ e. property-judged y (eqb-true _ 0x00 e)) (λ _. left refl)

    long-judged : (command : Extended) → ToldLong (command1_of s) command → Fits (extended_entry own lamp (request_of s) (data_of s) command)
    long-judged _ (to-set-flags e) = left refl
    long-judged _ (to-properties e) = properties-judged e
    long-judged _ (to-database e) = left refl
    long-judged _ long-to-load = other refl

  pub judged : Fits (answer (command_in s))
  judged = by_command s (λ (command : Command). Fits (answer command)) long-judged short-judged

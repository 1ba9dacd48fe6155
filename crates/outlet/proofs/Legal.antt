-- A legal command is what the table says, and any other is not listed or is as every kind has it.
use Prim.Native.Nat.{ℕ}
use mathlib.Core.Path.{◌≡◌, refl}
use mathlib.Core.Bool.{Bool, true, false}
use mathlib.Core.List.{List}
use lib.Dec.{eqb}
use borrow.Author.Tests.{eqb-true}
use Rattle.basis.specs.Choice.{choose}
use Rattle.basis.proofs.Choice.{by}
use Rattle.basis.proofs.Table.{◌or◌, by_rows}
use Rattle.wire.specs.declared.command.Standard.{Standard}
use Rattle.wire.specs.declared.command.Extended.{Extended}
use Rattle.wire.specs.declared.command.Command.{Command}
use Rattle.wire.specs.Bytes.{command1_of, command2_of, request_of, data_at, data_of, is_extended}
use Rattle.wire.specs.Commands.{standards, extendeds}
use Rattle.wire.specs.Asked.{Short, command_in}
use Rattle.wire.proofs.CommandBytes.{Told, to-anybody, to-module, to-load, ToldLong, to-set-flags, to-properties, to-database, long-to-load}
use Rattle.wire.proofs.CommandBytes.{by_command, short_command, long_command}
use Rattle.load.specs.declared.entry.Entry.{Entry}
use Rattle.load.specs.declared.entry.LoadEntry.{LoadEntry}
use Rattle.load.specs.Table.{properties_entry, standard_entry, extended_entry}
use Rattle.load.specs.Judged.{Judged, listed, other, left, Leaves}
use Rattle.load.specs.declared.state.Sockets.{Sockets}
use Rattle.outlet.specs.Load.{full_of, bit_of, statuses, status_entry, load_rows, load_entry, bottom_entry, second_rows, second_entry}
use Rattle.outlet.specs.Properties.{property_entry}
use Rattle.outlet.specs.Table.{own, entry_of}
use Rattle.outlet.specs.Legal.{full, bit, Outlet, top_on, top-off, bottom-on, bottom-off, status, status-both, get-properties}

-- what is shown is what the rows say
shows_full : (on : Bool) → full_of on ≡ full on
unfolding full_of choose
shows_full true = refl
shows_full false = refl

shows_bit : (on : Bool) → bit_of on ≡ bit on
unfolding bit_of choose
shows_bit true = refl
shows_bit false = refl

module _ (sockets : Sockets) (s : List ℕ) where
  abbrev pub answer : Command → LoadEntry Sockets
  answer command = entry_of sockets (request_of s) (data_of s) command

  pub says : (x : Sockets) (e : Entry) → Outlet sockets s x e → answer (command_in s) ≡ record { load = x; entry = e }
  unfolding standards extendeds choose status_entry load_entry bottom_entry second_entry property_entry properties_entry
  says x e (top_on h) = rw (short_command s 0x11 h, h.1)
  says x e (top-off h) = rw (short_command s 0x13 h, h.1)
  says x e (bottom-on h y) = rw (long_command s 0x11 h, h.1, y)
  says x e (bottom-off h y) = rw (long_command s 0x13 h, h.1, y)
  says x e (status h y) = rw (short_command s 0x19 h, h.1, y, shows_full sockets.top)
  says x e (status-both h y) = rw (short_command s 0x19 h, h.1, y, shows_bit sockets.top, shows_bit sockets.bottom)
  says x e (get-properties h) = rw (long_command s 0x2e h.0, h.1, h.2)

  pub leaves : Leaves s (λ (command : Command). (answer command).entry)
  unfolding choose property_entry properties_entry
  leaves = record { opens = λ _. refl; modules = λ _. refl; set-flags = refl; x10 = λ y z. rw (y, z); led = λ y z. rw (y, z); database = refl }

  abbrev Fits : LoadEntry Sockets → Type 0
  Fits x = Judged (Outlet sockets s) x.load x.entry

  module _ (x : is_extended s ≡ false) where
    status-judged : Short s 0x19 → Fits (status_entry sockets (command2_of s))
    unfolding status_entry
    status-judged y =
        by_rows Fits (command2_of s) _ (statuses sockets)
        ((λ e. rw (shows_full sockets.top) (listed (status y e)))
        or (λ e. rw (shows_bit sockets.top, shows_bit sockets.bottom) (listed (status-both y e)))
        or tt)
        (other refl)

    load-judged : Fits (load_entry sockets (request_of s))
    unfolding load_entry
    load-judged =
        by_rows Fits (command1_of s) _ (load_rows sockets (command2_of s))
        ((λ e. listed (top_on (x, e))) or (λ e. listed (top-off (x, e))) or (λ e. status-judged (x, e)) or tt)
        (other refl)

    short-judged : (command : Standard) → Told (command1_of s) command → Fits (standard_entry own sockets (request_of s) command)
    short-judged _ (to-anybody command e) = left refl
    short-judged _ (to-module command e) = left refl
    short-judged _ to-load = load-judged

  module _ (x : is_extended s ≡ true) where
    second-judged : Fits (second_entry sockets (request_of s) (data_of s))
    unfolding second_entry bottom_entry
    second-judged =
        by_rows Fits (command1_of s) _ (second_rows sockets (data_of s))
        ((λ y. by Fits (eqb (data_at s 1) 0x02) (λ e. listed (bottom-on (x, y) (eqb-true _ 0x02 e))) (λ _. other refl))
        or (λ y. by Fits (eqb (data_at s 1) 0x02) (λ e. listed (bottom-off (x, y) (eqb-true _ 0x02 e))) (λ _. other refl))
        or tt)
        (other refl)

    properties-judged : command1_of s ≡ 0x2e → Fits (properties_entry own sockets (request_of s) (data_of s))
    unfolding properties_entry property_entry
    properties-judged y =
        by Fits (eqb (command2_of s) 0x00)
        (λ z. by Fits (eqb (data_at s 2) 0x00) (λ e. listed (get-properties ((x, y), eqb-true _ 0x00 z, eqb-true _ 0x00 e))) (λ _. left refl))
        (λ _. left refl)

    long-judged : (command : Extended) → ToldLong (command1_of s) command → Fits (extended_entry own sockets (request_of s) (data_of s) command)
    long-judged _ (to-set-flags e) = left refl
    long-judged _ (to-properties e) = properties-judged e
    long-judged _ (to-database e) = left refl
    long-judged _ long-to-load = second-judged

  pub judged : Fits (answer (command_in s))
  judged = by_command s (λ (command : Command). Fits (answer command)) long-judged short-judged

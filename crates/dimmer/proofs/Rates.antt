-- Two lamps that differ by ramp rate and on level answer alike.
use Prim.Native.Nat.{ℕ}
use mathlib.Core.Path.{◌≡◌, refl}
use mathlib.Core.List.{List}
use lib.Dec.{eqb, leb}
use Rattle.basis.proofs.Choice.{beside}
use Rattle.basis.proofs.Table.{altered-rows}
use Rattle.wire.specs.declared.request.Request.{Request}
use Rattle.wire.specs.declared.command.Standard.{Standard}
use Rattle.wire.specs.declared.command.Extended.{Extended}
use Rattle.wire.specs.declared.command.Command.{Command}
use Rattle.wire.specs.Bytes.{data_in}
use Rattle.load.specs.declared.entry.Entry.{Entry}
use Rattle.load.specs.declared.entry.LoadEntry.{LoadEntry}
use Rattle.load.specs.Answer.{stays}
use Rattle.load.specs.Table.{properties_entry}
use Rattle.load.specs.Alike.{same, shown}
use Rattle.load.specs.declared.state.Lamp.{Lamp}
use Rattle.dimmer.specs.Load.{statuses, status_entry, percent_entry, load_rows, load_entry}
use Rattle.dimmer.specs.Properties.{ramp_entry, property_entry}
use Rattle.dimmer.specs.Table.{own, entry_of}
use Rattle.dimmer.specs.Rates.{with_rates, LampsAlike}

module _ (ramp on_level : ℕ) (lamp : Lamp) where
  abbrev other : Lamp
  other = with_rates ramp on_level lamp

  -- an answer with those rates in its lamp
  abbrev rated : LoadEntry Lamp → LoadEntry Lamp
  rated x = record { load = with_rates ramp on_level x.load; entry = x.entry }

  status_rated : (command2 : ℕ) → status_entry other command2 ≡ rated (status_entry lamp command2)
  unfolding status_entry
  status_rated command2 = altered-rows rated command2 (stays lamp Entry.Unlisted) (statuses lamp)

  percent_rated : (command2 : ℕ) → percent_entry other command2 ≡ rated (percent_entry lamp command2)
  unfolding percent_entry
  percent_rated command2 = beside (λ (x y : LoadEntry Lamp). x ≡ rated y) (leb command2 0x64) refl refl

  -- a command to the lamp gives the same to both, each with its own rates
  load_rated : (r : Request) → load_entry other r ≡ rated (load_entry lamp r)
  unfolding load_entry
  load_rated r = rw (status_rated r.command2, percent_rated r.command2) (altered-rows rated r.command1 (stays lamp Entry.Unlisted) (load_rows lamp r.command2))

  lit : (x y : Lamp) → x.level ≡ y.level → LampsAlike (record { load = x; entry = Entry.Done }) (record { load = y; entry = Entry.Done })
  lit x y e = record { level = e; entry = same Entry.Done }

  both : (entry : Entry) → LampsAlike (stays lamp entry) (stays other entry)
  both entry = record { level = refl; entry = same entry }

  rated_alike : (x y : LoadEntry Lamp) → y ≡ rated x → LampsAlike x y
  rated_alike x y e = rw e (record { level = refl; entry = same x.entry })

  properties_alike : (r : Request) (d : List ℕ) → LampsAlike (properties_entry own lamp r d) (properties_entry own other r d)
  unfolding ramp_entry property_entry properties_entry
  properties_alike r d =
      beside LampsAlike (eqb r.command2 0x00)
      (beside LampsAlike (eqb (data_in d 2) 0x00) (record { level = refl; entry = shown _ _ })
      (beside LampsAlike (eqb (data_in d 2) 0x05) (beside LampsAlike (leb (data_in d 3) 0x1f) (lit _ _ refl) (both Entry.Unlisted))
      (beside LampsAlike (eqb (data_in d 2) 0x06) (lit _ _ refl) (both Entry.Shared))))
      (both Entry.Shared)

  pub rates_alike : (r : Request) (d : List ℕ) (command : Command) → LampsAlike (entry_of lamp r d command) (entry_of other r d command)
  rates_alike r d (Command.Standard (Standard.Open command)) = both Entry.Shared
  rates_alike r d (Command.Standard (Standard.Module command)) = both Entry.Shared
  rates_alike r d (Command.Standard Standard.Load) = rated_alike _ _ (load_rated r)
  rates_alike r d (Command.Extended Extended.SetFlags) = both Entry.Shared
  rates_alike r d (Command.Extended Extended.Properties) = properties_alike r d
  rates_alike r d (Command.Extended Extended.Database) = both Entry.Shared
  rates_alike r d (Command.Extended Extended.Load) = both Entry.Unlisted

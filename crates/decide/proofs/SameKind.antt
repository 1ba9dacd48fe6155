-- No plan makes one kind of module of another: a kind's table has loads of its own kind alone, and nothing else names a load.
use Prim.Native.Nat.{ℕ, ◌+◌, ◌*◌}
use Rattle.std.specs.Prelude.{Option, Some, None, option_map}
use mathlib.Core.Path.{◌≡◌, refl}
use mathlib.Core.Bool.{◌||◌}
use mathlib.Core.List.{List}
use lib.Dec.{eqb}
use Rattle.std.specs.Prelude.{Result, Ok, Err, Option, Some, None, is_ok}
use Rattle.basis.specs.Numbers.{within}
use Rattle.basis.proofs.Choice.{either}
use Rattle.basis.proofs.Table.{◌or◌, by_rows}
use Rattle.wire.specs.declared.request.Request.{Request}
use Rattle.wire.specs.declared.command.Standard.{Standard}
use Rattle.wire.specs.declared.command.OpenCommand.{OpenCommand}
use Rattle.wire.specs.declared.command.ModuleCommand.{ModuleCommand}
use Rattle.wire.specs.declared.command.Extended.{Extended}
use Rattle.wire.specs.declared.command.Command.{Command}
use Rattle.wire.specs.declared.command.GroupCommand.{GroupCommand}
use Rattle.wire.specs.declared.kind.MessageKind.{MessageKind}
use Rattle.wire.specs.declared.kind.Unread.{Unread}
use Rattle.wire.specs.declared.kind.Message.{Message}
use Rattle.wire.specs.Bytes.{data_in}
use Rattle.links.specs.declared.memory.Link.{Link}
use Rattle.links.specs.declared.search.Missing.{Missing}
use Rattle.links.specs.Record.{is_fit, records}
use Rattle.links.specs.Name.{place_of}
use Rattle.links.specs.Search.{search_of}
use Rattle.links.proofs.Following.{by_found}
use Rattle.load.specs.declared.entry.Entry.{Entry}
use Rattle.load.specs.declared.entry.LoadEntry.{LoadEntry}
use Rattle.load.specs.declared.state.Load.{Load}
use Rattle.module.specs.declared.state.Module.{Module}
use Rattle.module.specs.declared.deed.Deed.{Deed}
use Rattle.module.specs.declared.plan.Plan.{Plan}
use Rattle.module.specs.Change.{apply}
use Rattle.module.specs.Deed.{limited}
use Rattle.module.specs.Module.{kind_of}
use Rattle.module.specs.Plan.{deed_plan}
use Rattle.shared.specs.Standard.{flag_bytes, flags_told}
use Rattle.shared.specs.Extended.{get_deed, set_deed, property_rows, property_deed, properties_deed, record_rows, record_deed, database_deed}
use Rattle.shared.specs.Table.{shared_deed}
use Rattle.decide.specs.declared.rule.Ruling.{Ruling}
use Rattle.decide.specs.Dispatch.{entry_by, deed_by, group_deed_by}
use Rattle.decide.specs.Groups.{broadcast_by, cleanup_by}
use Rattle.decide.specs.Decide.{needs_no_link, direct_plan, wanted_of, plan_of}
use Rattle.decide.specs.Ruling.{read_ruling, ruling_by}

-- a kind's table has loads of its own kind
own_kind : (load : Load) (r : Request) (d : List ℕ) (command : Command) → kind_of (entry_by load r d command).load ≡ kind_of load
own_kind (Load.Dimmer lamp) r d command = refl
own_kind (Load.Outlet sockets) r d command = refl

module _ (m : Module) where
  -- the module after it is of the same kind
  abbrev Same : Plan → Type 0
  Same p = kind_of (apply p.change m).load ≡ kind_of m.load

  abbrev SameGroup : Option Load → Type 0
  SameGroup (Some load) = kind_of load ≡ kind_of m.load
  SameGroup None = Unit {0}

  module _ (r : Request) (d : List ℕ) (n : ℕ) where
    abbrev SameDeed : Deed → Type 0
    SameDeed deed = Same (deed_plan m r deed)

    limited-same : (a b x : ℕ) (deed : Deed) → SameDeed deed → SameDeed (limited a b x deed)
    unfolding limited
    limited-same a b x deed h = either SameDeed (within a b x) h refl

    told_same : SameDeed (flags_told m r.command2)
    unfolding flags_told
    told_same = by_rows SameDeed r.command2 Deed.Unlisted (flag_bytes m) ((λ _. refl) or (λ _. refl) or tt) refl

    properties-same : SameDeed (properties_deed r d)
    unfolding properties_deed property_deed
    properties-same =
        either SameDeed (eqb r.command2 0x00)
        (by_rows SameDeed (data_in d 2) Deed.Unlisted (property_rows d) ((λ _. refl) or (λ _. limited-same _ _ _ _ refl) or tt) refl)
        refl

    get-same : (place : Option ℕ) → SameDeed (get_deed d place)
    get-same (Some k) = refl
    get-same None = refl

    set_same : (place : Option ℕ) → SameDeed (set_deed d place)
    set_same (Some k) = limited-same _ _ _ _ refl
    set_same None = refl

    database-same : SameDeed (database_deed r d n)
    unfolding database_deed record_deed
    database-same =
        let place : Option ℕ = place_of n (data_in d 3 * 256 + data_in d 4) in
        either SameDeed (eqb r.command2 0x00)
        (by_rows SameDeed (data_in d 2) Deed.Unlisted (record_rows d place) ((λ _. get-same place) or (λ _. set_same place) or tt) refl)
        refl

    shared_same : (command : Command) → SameDeed (shared_deed m r d n command)
    shared_same (Command.Standard (Standard.Open OpenCommand.Ping)) = refl
    shared_same (Command.Standard (Standard.Open OpenCommand.IdRequest)) = refl
    shared_same (Command.Standard (Standard.Module ModuleCommand.EngineVersion)) = refl
    shared_same (Command.Standard (Standard.Module ModuleCommand.ReadFlags)) = told_same
    shared_same (Command.Standard (Standard.Module ModuleCommand.Beep)) = refl
    shared_same (Command.Standard Standard.Load) = refl
    shared_same (Command.Extended Extended.SetFlags) = limited-same _ _ _ _ refl
    shared_same (Command.Extended Extended.Properties) = properties-same
    shared_same (Command.Extended Extended.Database) = database-same
    shared_same (Command.Extended Extended.Load) = refl

    by-entry : (command : Command) (next : Load) (entry : Entry) → kind_of next ≡ kind_of m.load → SameDeed (deed_by m r d n command next entry)
    by-entry command next Entry.Done e = e
    by-entry command next (Entry.Shows x) e = refl
    by-entry command next (Entry.Shown p) e = refl
    by-entry command next Entry.Shared e = shared_same command
    by-entry command next Entry.Unlisted e = refl

    direct-same : (command : Command) (found : Result Link Missing) → Same (direct_plan m r d n command found)
    unfolding direct_plan
    direct-same command found =
        let own : LoadEntry Load = entry_by m.load r d command in
        either Same (needs_no_link command || is_ok found) (by-entry command own.load own.entry (own_kind m.load r d command)) refl

  grouped_same : {A : Type 0} (load : A → Load) → ((x : A) → kind_of (load x) ≡ kind_of m.load) → (next : Option A) → SameGroup (option_map load next)
  grouped_same load e (Some x) = e x
  grouped_same load e None = tt

  group_same : (load : Load) (command : GroupCommand) (link : Link) → kind_of load ≡ kind_of m.load → SameGroup (group_deed_by load command link)
  group_same (Load.Dimmer lamp) command link e = grouped_same Load.Dimmer (λ _. e) _
  group_same (Load.Outlet sockets) command link e = grouped_same Load.Outlet (λ _. e) _

  broadcast_same : (next : Option Load) → SameGroup next → Same (broadcast_by next)
  broadcast_same (Some load) e = e
  broadcast_same None e = refl

  cleanup_same : (r : Request) (next : Option Load) → SameGroup next → Same (cleanup_by r next)
  cleanup_same r (Some load) e = e
  cleanup_same r None e = refl

  plan_same : (kind : MessageKind) (d : List ℕ) (n : ℕ) (found : Result Link Missing) → Same (plan_of m kind d n found)
  plan_same (MessageKind.Direct r command) d n found = direct-same r d n command found
  plan_same (MessageKind.Cleanup r command) d n found =
      by_found Same found _ _ (λ link. cleanup_same r (group_deed_by m.load command link) (group_same m.load command link refl)) refl
  plan_same (MessageKind.Broadcast from to command) d n found =
      by_found Same found _ _ (λ link. broadcast_same (group_deed_by m.load command link) (group_same m.load command link refl)) refl
  plan_same MessageKind.Foreign d n found = refl

  read_same : (l d : List ℕ) (reading : Result MessageKind Unread) → Same (read_ruling m l d reading).plan
  read_same l d (Ok kind) = plan_same kind d (records l) (search_of l (wanted_of kind)).found
  read_same l d (Err Unread.BadLength) = refl
  read_same l d (Err Unread.BadSum) = refl

  pub ruling_same : (l : List ℕ) (message : Message) → Same (ruling_by m l message).plan
  unfolding ruling_by
  ruling_same l message = either (λ (r : Ruling). Same r.plan) (is_fit l) (read_same l message.«data» message.reading) refl

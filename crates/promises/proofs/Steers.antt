-- Flags, LED, ramp rate and on level steer nothing, and hops are not read.
use Prim.Native.Nat.{ℕ, ◌+◌, ◌*◌, ◌/◌, ◌%◌}
use Rattle.std.specs.Prelude.{Option, Some, None, option_map}
use mathlib.Core.Path.{◌≡◌, refl, sym, ap, subst}
use mathlib.Core.Bool.{◌||◌}
use mathlib.Core.List.{List, ◌∷◌}
use native.Mathlib.Omega.{arith}
use lib.Dec.{eqb, ltb}
use lib.ListN.{length}
use Rattle.std.specs.Prelude.{Result, Ok, Err, Option, Some, None, is_ok}
use Rattle.basis.specs.Numbers.{within}
use Rattle.basis.proofs.Choice.{beside}
use Rattle.wire.specs.declared.address.Address.{Address}
use Rattle.wire.specs.declared.request.Request.{Request}
use Rattle.wire.specs.declared.command.Standard.{Standard}
use Rattle.wire.specs.declared.command.OpenCommand.{OpenCommand}
use Rattle.wire.specs.declared.command.ModuleCommand.{ModuleCommand}
use Rattle.wire.specs.declared.command.Extended.{Extended}
use Rattle.wire.specs.declared.command.Command.{Command}
use Rattle.wire.specs.declared.command.GroupCommand.{GroupCommand}
use Rattle.wire.specs.declared.kind.MessageKind.{MessageKind}
use Rattle.wire.specs.declared.kind.Unread.{Unread}
use Rattle.wire.specs.declared.kind.Message.{Message}
use Rattle.wire.specs.Bytes.{data_in}
use Rattle.wire.specs.Kinds.{kind_of}
use Rattle.wire.specs.Reading.{read_of}
use Rattle.links.specs.declared.memory.Link.{Link}
use Rattle.links.specs.declared.search.Missing.{Missing}
use Rattle.links.specs.Record.{is_fit, records}
use Rattle.links.specs.Name.{place_of}
use Rattle.links.specs.Search.{search_of}
use Rattle.links.proofs.Following.{beside_found}
use Rattle.reply.specs.declared.due.Due.{Due}
use Rattle.reply.specs.Reply.{reply_of}
use Rattle.results.specs.declared.Outcome.{Outcome}
use Rattle.results.specs.Number.{number_of}
use Rattle.load.specs.declared.entry.Entry.{Entry}
use Rattle.load.specs.declared.entry.LoadEntry.{LoadEntry}
use Rattle.load.specs.declared.state.Sockets.{Sockets}
use Rattle.load.specs.declared.state.Load.{Load}
use Rattle.load.specs.Alike.{Alike, same, shown}
use Rattle.module.specs.declared.state.Module.{Module}
use Rattle.module.specs.declared.change.Change.{Change}
use Rattle.module.specs.declared.deed.Deed.{Deed}
use Rattle.module.specs.declared.plan.Plan.{Plan}
use Rattle.module.specs.Change.{with_led, with_x10, with_load, apply}
use Rattle.module.specs.Deed.{acked, telling, limited}
use Rattle.module.specs.Plan.{refused, deed_plan}
use Rattle.shared.specs.Standard.{flags_told}
use Rattle.shared.specs.Extended.{property_deed, properties_deed, get_deed, set_deed, record_deed, database_deed}
use Rattle.shared.specs.Table.{shared_deed}
use Rattle.dimmer.specs.Table.{entry_of}
use Rattle.dimmer.specs.Rates as lamps
use Rattle.dimmer.proofs.Rates.{rates_alike}
use Rattle.outlet.specs.Groups.{group_of}
use Rattle.decide.specs.declared.rule.Ruling.{Ruling}
use Rattle.decide.specs.Dispatch.{entry_by, deed_by, group_deed_by}
use Rattle.decide.specs.Groups.{broadcast_by, cleanup_by}
use Rattle.decide.specs.Decide.{needs_no_link, direct_plan, wanted_of, plan_of}
use Rattle.decide.specs.Ruling.{heard_by, read_ruling, ruling_by, ruling_of}
use Rattle.device.specs.Step.{links_after, finish_of, step_of}
use Rattle.promises.specs.Steers.{with_rates, stored, Besides, SameBut, SteersNothing, HopsUnread}

-- two plans of such modules
module _ (m : Module) (flags led ramp level : ℕ) (l d : List ℕ) where
  abbrev n : Module
  n = stored flags led ramp level m

  abbrev own : Address
  own = m.identity.address

  record Same (p q : Plan) : Type 0 where
    number : number_of p.outcome ≡ number_of q.outcome
    next : Besides (apply p.change m) (apply q.change n)
    links : links_after l d p.writing ≡ links_after l d q.writing
    due : length (reply_of own l p.due) ≡ length (reply_of own l q.due)

  unchanged : Besides m n
  unchanged = record { flags = flags; led = led; ramp = ramp; on-level = level; rest = refl }

  -- loads that differ by ramp rate and on level alone
  record Loads (x y : Load) : Type 0 where
    rate : ℕ
    on : ℕ
    rest : y ≡ with_rates rate on x

  loads_besides : (x y : Load) → Loads x y → Besides (with_load x m) (with_load y n)
  loads_besides x y e = record { flags = flags; led = led; ramp = e.rate; on-level = e.on; rest = rw e.rest }

  -- a refusal of both
  none : (o : Outcome) (due : Due) → Same (refused o due) (refused o due)
  none o due = record { number = refl; next = unchanged; links = refl; due = refl }

  module _ (r : Request) where
    abbrev Both : Deed → Deed → Type 0
    Both x y = Same (deed_plan m r x) (deed_plan n r y)

    unlisted-both : Both Deed.Unlisted Deed.Unlisted
    unlisted-both = none Outcome.Unlisted _

    -- nothing changes, and as many bytes are sent
    tells : (x y : ℕ) → Both (telling x) (telling y)
    tells x y = record { number = refl; next = unchanged; links = refl; due = refl }

    flagged-both : (x y : ℕ) → Both (acked (Change.Flags x)) (acked (Change.Flags y))
    flagged-both x y = record { number = refl; next = record { flags = y; led = led; ramp = ramp; on-level = level; rest = refl }; links = refl; due = refl }

    told-both : Both (flags_told m r.command2) (flags_told n r.command2)
    unfolding flags_told
    told-both = beside Both (eqb r.command2 0x00) (tells _ _) (beside Both (eqb r.command2 0x01) (tells _ _) unlisted-both)

    limited-both : (a b x : ℕ) (c e : Deed) → Both c e → Both (limited a b x c) (limited a b x e)
    unfolding limited
    limited-both a b x c e h = beside Both (within a b x) h unlisted-both

    properties-both : Both (properties_deed r d) (properties_deed r d)
    unfolding properties_deed property_deed
    properties-both =
        beside Both (eqb r.command2 0x00)
        (beside Both (eqb (data_in d 2) 0x04) (record { number = refl; next = unchanged-but-x10 _ _; links = refl; due = refl })
        (beside Both (eqb (data_in d 2) 0x07) (limited-both _ _ _ _ _ (record { number = refl; next = unchanged-but-led _; links = refl; due = refl })) unlisted-both))
        unlisted-both
      where
        unchanged-but-x10 : (house unit : ℕ) → Besides (with_x10 house unit m) (with_x10 house unit n)
        unchanged-but-x10 house unit = record { flags = flags; led = led; ramp = ramp; on-level = level; rest = refl }

        unchanged-but-led : (x : ℕ) → Besides (with_led x m) (with_led x n)
        unchanged-but-led x = record { flags = flags; led = x; ramp = ramp; on-level = level; rest = refl }

    get-both : (place : Option ℕ) → Both (get_deed d place) (get_deed d place)
    get-both (Some k) = record { number = refl; next = unchanged; links = refl; due = refl }
    get-both None = unlisted-both

    set_both : (place : Option ℕ) → Both (set_deed d place) (set_deed d place)
    set_both (Some k) =
        limited-both _ _ _ _ _ (record { number = refl; next = record { flags = flags; led = led; ramp = ramp; on-level = level; rest = refl }; links = refl; due = refl })
    set_both None = unlisted-both

    database-both : Both (database_deed r d (records l)) (database_deed r d (records l))
    unfolding database_deed record_deed
    database-both =
        let place : Option ℕ = place_of (records l) (data_in d 3 * 256 + data_in d 4) in
        beside Both (eqb r.command2 0x00)
        (beside Both (eqb (data_in d 2) 0x00) (get-both place) (beside Both (eqb (data_in d 2) 0x02) (set_both place) unlisted-both))
        unlisted-both

    -- what every kind does
    shared-both : (command : Command) → Both (shared_deed m r d (records l) command) (shared_deed n r d (records l) command)
    shared-both (Command.Standard (Standard.Open OpenCommand.Ping)) = record { number = refl; next = unchanged; links = refl; due = refl }
    shared-both (Command.Standard (Standard.Open OpenCommand.IdRequest)) = record { number = refl; next = unchanged; links = refl; due = refl }
    shared-both (Command.Standard (Standard.Module ModuleCommand.EngineVersion)) = tells _ _
    shared-both (Command.Standard (Standard.Module ModuleCommand.ReadFlags)) = told-both
    shared-both (Command.Standard (Standard.Module ModuleCommand.Beep)) = record { number = refl; next = unchanged; links = refl; due = refl }
    shared-both (Command.Standard Standard.Load) = unlisted-both
    shared-both (Command.Extended Extended.SetFlags) = limited-both _ _ _ _ _ (flagged-both _ _)
    shared-both (Command.Extended Extended.Properties) = properties-both
    shared-both (Command.Extended Extended.Database) = database-both
    shared-both (Command.Extended Extended.Load) = unlisted-both

    module _ (command : Command) where
      -- what an answer of the kind's own table comes to on each
      abbrev Deeds : Load → Load → Entry → Entry → Type 0
      Deeds x y e f = Both (deed_by m r d (records l) command x e) (deed_by n r d (records l) command y f)

      by-entry : (x y : Load) → Loads x y → (e f : Entry) → Alike e f → Deeds x y e f
      by-entry x y h _ _ (same Entry.Done) = record { number = refl; next = loads_besides x y h; links = refl; due = refl }
      by-entry x y h _ _ (same (Entry.Shows v)) = record { number = refl; next = unchanged; links = refl; due = refl }
      by-entry x y h _ _ (same (Entry.Shown p)) = record { number = refl; next = unchanged; links = refl; due = refl }
      by-entry x y h _ _ (same Entry.Shared) = shared-both command
      by-entry x y h _ _ (same Entry.Unlisted) = unlisted-both
      by-entry x y h _ _ (shown p q) = record { number = refl; next = unchanged; links = refl; due = refl }

      abbrev Answers : LoadEntry Load → LoadEntry Load → Type 0
      Answers x y = Deeds x.load y.load x.entry y.entry

      answers-both : (load : Load) → Answers (entry_by load r d command) (entry_by (with_rates ramp level load) r d command)
      answers-both (Load.Dimmer lamp) =
          let x = entry_of lamp r d command in
          let y = entry_of (lamps.with_rates ramp level lamp) r d command in
          let z = rates_alike ramp level lamp r d command in
          by-entry (Load.Dimmer x.load) (Load.Dimmer y.load) (record { rate = y.load.ramp; on = y.load.on_level; rest = rw z.level }) _ _ z.entry
      answers-both (Load.Outlet sockets) =
          let x = entry_by (Load.Outlet sockets) r d command in
          by-entry x.load x.load (record { rate = 0; on = 0; rest = refl }) _ _ (same x.entry)

    direct-alike : (command : Command) (found : Result Link Missing) → Same (direct_plan m r d (records l) command found) (direct_plan n r d (records l) command found)
    unfolding direct_plan
    direct-alike command found = beside Same (needs_no_link command || is_ok found) (answers-both command m.load) (none Outcome.NotLinked _)

  -- what a record does to both
  data BothGroups : Option Load → Option Load → Type 0 where
    both-done : (x y : Load) → Loads x y → BothGroups (Some x) (Some y)
    both-unlisted : BothGroups None None

  group_alike : (load : Load) (command : GroupCommand) (link : Link) → BothGroups (group_deed_by load command link) (group_deed_by (with_rates ramp level load) command link)
  group_alike (Load.Dimmer lamp) GroupCommand.On link = both-done _ _ (record { rate = ramp; on = level; rest = refl })
  group_alike (Load.Dimmer lamp) GroupCommand.Off link = both-done _ _ (record { rate = ramp; on = level; rest = refl })
  group_alike (Load.Dimmer lamp) GroupCommand.Unlisted link = both-unlisted
  group_alike (Load.Outlet sockets) command link = go (group_of sockets command link)
    where
      go : (next : Option Sockets) → BothGroups (option_map Load.Outlet next) (option_map Load.Outlet next)
      go (Some x) = both-done _ _ (record { rate = 0; on = 0; rest = refl })
      go None = both-unlisted

  cleaned_alike : (r : Request) (a b : Option Load) → BothGroups a b → Same (cleanup_by r a) (cleanup_by r b)
  cleaned_alike r a b (both-done x y h) = record { number = refl; next = loads_besides x y h; links = refl; due = refl }
  cleaned_alike r a b both-unlisted = none Outcome.Unlisted _

  called_alike : (a b : Option Load) → BothGroups a b → Same (broadcast_by a) (broadcast_by b)
  called_alike a b (both-done x y h) = record { number = refl; next = loads_besides x y h; links = refl; due = refl }
  called_alike a b both-unlisted = none Outcome.Unconcerned Due.Nothing

  plan_alike : (kind : MessageKind) (found : Result Link Missing) → Same (plan_of m kind d (records l) found) (plan_of n kind d (records l) found)
  plan_alike (MessageKind.Direct r command) found = direct-alike r command found
  plan_alike (MessageKind.Cleanup r command) found =
      beside_found Same found _ _ _ _ (λ link. cleaned_alike r _ _ (group_alike m.load command link)) (none Outcome.NotLinked _)
  plan_alike (MessageKind.Broadcast from to command) found =
      beside_found Same found _ _ _ _ (λ link. called_alike _ _ (group_alike m.load command link)) (none Outcome.Unconcerned Due.Nothing)
  plan_alike MessageKind.Foreign found = none Outcome.Foreign Due.Nothing

  record Ruled (p q : Ruling) : Type 0 where
    plan : Same p.plan q.plan
    read : p.read ≡ q.read

  ruled_alike : (reading : Result MessageKind Unread) → Ruled (read_ruling m l d reading) (read_ruling n l d reading)
  ruled_alike (Ok kind) = record { plan = plan_alike kind (search_of l (wanted_of kind)).found; read = refl }
  ruled_alike (Err Unread.BadLength) = record { plan = none Outcome.BadLength Due.Nothing; read = refl }
  ruled_alike (Err Unread.BadSum) = record { plan = none Outcome.BadSum Due.Nothing; read = refl }

-- and what comes of them
module _ (m : Module) (flags led ramp level : ℕ) (l s room : List ℕ) where
  abbrev other : Module
  other = stored flags led ramp level m

  abbrev given : List ℕ
  given = (heard_by m s).«data»

  ruling_alike : Ruled m flags led ramp level l given (ruling_of m l s) (ruling_of other l s)
  unfolding ruling_by
  ruling_alike =
      beside (Ruled m flags led ramp level l given) (is_fit l) (ruled_alike m flags led ramp level l given (heard_by m s).reading)
      (record { plan = none m flags led ramp level l given Outcome.BadMemory Due.Nothing; read = refl })

  step_alike : SameBut (step_of m l s room) (step_of other l s room)
  step_alike =
      let both = ruling_alike in
      rw both.plan.due
      (beside SameBut (ltb (length room) (length (reply_of m.identity.address l (ruling_of other l s).plan.due)))
      (record { number = refl; read = both.read; links = refl; next = unchanged m flags led ramp level l given })
      (record { number = both.plan.number; read = both.read; links = both.plan.links; next = both.plan.next }))

pub steers_nothing : SteersNothing
steers_nothing m n l s room b =
    subst (λ (x : Module). SameBut (step_of m l s room) (step_of x l s room)) (sym b.rest) (step_alike m b.flags b.led b.ramp b.on-level l s room)

-- bits 7 to 4 say all that is read of flags
read_alike : (f0 f1 f2 t0 t1 t2 flags other : ℕ) (rest : List ℕ) (own : Address) → flags / 16 ≡ other / 16 → flags % 4 ≡ other % 4
    → read_of (f0 ∷ f1 ∷ f2 ∷ t0 ∷ t1 ∷ t2 ∷ flags ∷ rest) own ≡ read_of (f0 ∷ f1 ∷ f2 ∷ t0 ∷ t1 ∷ t2 ∷ other ∷ rest) own
unfolding read_of kind_of
read_alike f0 f1 f2 t0 t1 t2 flags other rest own e h =
    let type : flags / 32 ≡ other / 32 = omega arith in
    rw (e, h, type)

pub hops_unread : HopsUnread
hops_unread m l room f0 f1 f2 t0 t1 t2 flags other rest e h =
    ap (λ (x : Message). finish_of m l x.«data» room (ruling_by m l x)) (read_alike f0 f1 f2 t0 t1 t2 flags other rest m.identity.address e h)

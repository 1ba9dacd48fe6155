-- One answer only: two results that a public function's promise allows are equal ("What the promises have to say").
use Rattle.std.specs.Prelude.{ℕ, ◌-◌, min, ◌≡◌, Bool, List, [], ◌∷◌, drop, Option, Result}
use Rattle.basis.specs.Laid.{laid, laid_if_fits}
use Rattle.wire.specs.declared.address.Address.{Address}
use Rattle.wire.specs.declared.request.Request.{Request}
use Rattle.wire.specs.declared.command.Command.{Command}
use Rattle.wire.specs.declared.command.Standard.{Standard}
use Rattle.wire.specs.declared.command.Extended.{Extended}
use Rattle.wire.specs.declared.command.GroupCommand.{GroupCommand}
use Rattle.wire.specs.declared.kind.MessageKind.{MessageKind}
use Rattle.wire.specs.declared.kind.Message.{Message}
use Rattle.wire.specs.Bytes.{equals, is_extended}
use Rattle.wire.specs.Commands.{standard_of, extended_of, group_command_of}
use Rattle.wire.specs.Kinds.{heard_as}
use Rattle.wire.specs.Reading.{heard_in, ReadPromise}
use Rattle.links.specs.declared.memory.Link.{Link}
use Rattle.links.specs.declared.search.Wanted.{Wanted}
use Rattle.links.specs.declared.search.Searched.{Searched}
use Rattle.links.specs.Record.{is_fit, is_fit_size, records, record_or_blank, is_end_mark}
use Rattle.links.specs.Name.{name_of, place_of}
use Rattle.links.specs.Mark.{up_to_mark}
use Rattle.links.specs.Search.{search_of}
use Rattle.links.specs.Write.{written_if_there}
use Rattle.reply.specs.declared.due.ReplyType.{ReplyType}
use Rattle.reply.specs.declared.due.Head.{Head}
use Rattle.reply.specs.declared.due.Due.{Due}
use Rattle.reply.specs.declared.send.TooShort.{TooShort}
use Rattle.reply.specs.Message.{headed}
use Rattle.reply.specs.Reply.{reply_of}
use Rattle.reply.specs.Sending.{Sending}
use Rattle.results.specs.declared.Outcome.{Outcome}
use Rattle.results.specs.Number.{number_of}
use Rattle.module.specs.declared.state.Identity.{Identity}
use Rattle.load.specs.declared.entry.Entry.{Entry}
use Rattle.load.specs.declared.entry.LoadEntry.{LoadEntry}
use Rattle.load.specs.declared.entry.Properties.{Properties}
use Rattle.load.specs.declared.state.Lamp.{Lamp}
use Rattle.load.specs.declared.state.Sockets.{Sockets}
use Rattle.load.specs.Fresh.{fresh_lamp, fresh_sockets}
use Rattle.load.specs.Answer.{becomes, stays}
use Rattle.load.specs.Table.{Own, entry_of}
use Rattle.module.specs.declared.state.Module.{Module}
use Rattle.module.specs.declared.change.Change.{Change}
use Rattle.module.specs.declared.deed.Ack.{Ack}
use Rattle.module.specs.declared.deed.Write.{Write}
use Rattle.module.specs.declared.deed.Deed.{Deed}
use Rattle.module.specs.declared.plan.Plan.{Plan}
use Rattle.module.specs.Module.{fresh_dimmer, fresh_outlet}
use Rattle.module.specs.Change.{apply}
use Rattle.module.specs.Deed
use Rattle.module.specs.Plan
use Rattle.shared.specs.Extended.{shown_deed}
use Rattle.shared.specs.Table.{shared_deed}
use Rattle.dimmer.specs.Table as dimmer
use Rattle.dimmer.specs.Groups as dimmer-groups
use Rattle.outlet.specs.Table as outlet
use Rattle.outlet.specs.Groups as outlet-groups
use Rattle.decide.specs.declared.rule.Ruling.{Ruling}
use Rattle.decide.specs.Ruling.{ruling_by}
use Rattle.device.specs.declared.step.Answer.{Answer}
use Rattle.device.specs.Step.{step_by, Comes, StepPromise}
use Rattle.row.specs.declared.outcome.ClassOutcome.{ClassOutcome}
use Rattle.row.specs.declared.progress.ClassAnswer.{ClassAnswer}
use Rattle.row.specs.declared.progress.Progress.{Progress}
use Rattle.class.specs.declared.seats.SeatsAnswer.{SeatsAnswer}
use Rattle.row.specs.Number.{class_number_of}
use Rattle.row.specs.Answer.{silent, joined, of_seat, and_seat}
use Rattle.row.specs.Round.{ended, opened, noticed, settled_if_few}
use Rattle.class.specs.Class.{class_of, ClassComes}
use Rattle.class.specs.Seats.{seats_of, SeatsCome}
use Rattle.seating.specs.declared.heed.Seating.{Seating}
use Rattle.seating.specs.declared.heed.Heeded.{Heeded}
use Rattle.seating.specs.Heed.{heed_of, Heeds}
use Rattle.seating.specs.Start.{alone_with, class_with}
use Rattle.modem.specs.declared.arrived.Seen.{Seen}
use Rattle.modem.specs.Arrived.{seek_of}
use Rattle.modem.specs.Serve.{Turn, ServePromise}
use Rattle.roster.specs.declared.word.Kind.{Kind}
use Rattle.roster.specs.declared.roster.Roster.{Roster}
use Rattle.roster.specs.Word.{named}
use Rattle.roster.specs.Seat.{fresh_as, fresh_at, bench_of}
use Rattle.roster.specs.Line.{Line, line_of}
use Rattle.roster.specs.Roster.{roster_of}
use Rattle.io.specs.Counts.{IsPrefixLen}
use Rattle.letters.specs.Page.{Page, cut_at}
use Rattle.letters.specs.Laid.{laid_in, laid_behind, Begins, Lays}
use Rattle.image.specs.Image.{is_image, held_in, stored_if_own}
use Rattle.image.specs.Returned.{Returned, Returns}
use Rattle.embed.specs.Call.{returned_of}
use Rattle.embed_class.specs.ClassCall.{class_returned_of}

-- at most one result meets the promise
abbrev pub Only : {A : Type 0} → (A → Type 0) → Type 0
Only {A} P = (x y : A) → P x → P y → x ≡ y

-- what sending gives: its answer, and the room afterwards
pub record Delivered : Type 0 where
  pub answer : Result ℕ TooShort
  pub room : List ℕ

-- what a call gives: its answer, link memory and the room afterwards
pub record Called : Type 0 where
  pub answer : Answer
  pub links : List ℕ
  pub room : List ℕ

-- what a call to a class gives: its answer, the row, link memory and the room afterwards
pub record ClassCalled : Type 0 where
  pub answer : ClassAnswer
  pub row : List Module
  pub links : List ℕ
  pub room : List ℕ

-- to a row by value
pub record SeatsCalled : Type 0 where
  pub answer : SeatsAnswer
  pub links : List ℕ
  pub room : List ℕ

-- to whoever sits there
pub record HeedCalled : Type 0 where
  pub heeded : Heeded
  pub links : List ℕ
  pub room : List ℕ

-- a line, and how many of its bytes are laid
pub record Put : Type 0 where
  pub count : ℕ
  pub line : List ℕ

-- every public function by its crate and its name, lowest first
pub record EachOnce : Type 1 where
  pub basis-lay : (room bytes : List ℕ) → Only (λ (after : List ℕ). after ≡ laid_if_fits room bytes)
  pub basis-min : (a b : ℕ) → Only (λ (r : ℕ). r ≡ min a b)
  pub wire-read : (s : List ℕ) (own : Address) → Only (ReadPromise s own)
  pub wire-hear : (s : List ℕ) → Only (λ (r : Message). r ≡ heard_in s)
  pub wire-heard-as : (s : List ℕ) → Only (λ (r : MessageKind). r ≡ heard_as s)
  pub wire-is-extended : (s : List ℕ) → Only (λ (r : Bool). r ≡ is_extended s)
  pub links-is-fit : (l : List ℕ) → Only (λ (r : Bool). r ≡ is_fit l)
  pub links-is-fit-size : (n : ℕ) → Only (λ (r : Bool). r ≡ is_fit_size n)
  pub links-records : (l : List ℕ) → Only (λ (r : ℕ). r ≡ records l)
  pub links-record-or-blank : (l : List ℕ) (k : ℕ) → Only (λ (r : List ℕ). r ≡ record_or_blank l k)
  pub links-is-end-mark : (r : List ℕ) → Only (λ (b : Bool). b ≡ is_end_mark r)
  pub links-up-to-mark : (l : List ℕ) (k n : ℕ) → Only (λ (r : ℕ). r ≡ up_to_mark l (min n (records l - k)) k)
  pub links-search : (l : List ℕ) (w : Option Wanted) → Only (λ (r : Searched). r ≡ search_of l w)
  pub links-name-of : (k : ℕ) → Only (λ (r : ℕ). r ≡ name_of k)
  pub links-place-of : (n address : ℕ) → Only (λ (r : Option ℕ). r ≡ place_of n address)
  pub links-write : (l : List ℕ) (k : ℕ) (bytes : List ℕ) → Only (λ (after : List ℕ). after ≡ written_if_there l k bytes)
  pub reply-answering : (type : ReplyType) (q : Request) (one two : ℕ) → Only (λ (r : Head). r ≡ headed type q one two)
  pub reply-send : (own : Address) (l : List ℕ) (due : Due) (room : List ℕ)
      → Only (λ (d : Delivered). Sending (reply_of own l due) room d.answer d.room)
  -- of a load of each type
  pub load-becomes : (L : Type 0) (load : L) → Only (λ (r : LoadEntry L). r ≡ becomes load)
  pub load-stays : (L : Type 0) (load : L) (entry : Entry) → Only (λ (r : LoadEntry L). r ≡ stays load entry)
  -- and of a kind of each, by what is its own
  pub load-entry-of : (L : Type 0) (own : Own L) (load : L) (q : Request) (d : List ℕ) (command : Command)
      → Only (λ (r : LoadEntry L). r ≡ entry_of own load q d command)
  pub module-fresh-dimmer : (i : Identity) → Only (λ (r : Module). r ≡ fresh_dimmer i)
  pub module-fresh-outlet : (i : Identity) → Only (λ (r : Module). r ≡ fresh_outlet i)
  pub module-apply : (m : Module) (change : Change) → Only (λ (r : Module). r ≡ apply change m)
  pub module-acked : (change : Change) → Only (λ (r : Deed). r ≡ Deed.acked change)
  pub module-answered : (ack : Ack) → Only (λ (r : Deed). r ≡ Deed.answered ack)
  pub module-limited : (a b x : ℕ) (deed : Deed) → Only (λ (r : Deed). r ≡ Deed.limited a b x deed)
  pub module-done : (change : Change) (due : Due) → Only (λ (r : Plan). r ≡ Plan.done change due)
  pub module-wrote : (write : Write) (due : Due) → Only (λ (r : Plan). r ≡ Plan.wrote write due)
  pub module-refused : (o : Outcome) (due : Due) → Only (λ (r : Plan). r ≡ Plan.refused o due)
  pub module-unlinked : (type : ReplyType) (q : Request) → Only (λ (r : Plan). r ≡ Plan.unlinked type q)
  pub module-unlisted : (type : ReplyType) (q : Request) → Only (λ (r : Plan). r ≡ Plan.unlisted type q)
  pub module-plan : (m : Module) (q : Request) (deed : Deed) → Only (λ (r : Plan). r ≡ Plan.deed_plan m q deed)
  pub shared-shown-deed : (m : Module) (data1 : ℕ) (p : Properties) → Only (λ (r : Deed). r ≡ shown_deed m data1 p)
  pub shared-shared-deed : (m : Module) (q : Request) (d : List ℕ) (n : ℕ) (command : Command) → Only (λ (r : Deed). r ≡ shared_deed m q d n command)
  pub dimmer-group-of : (lamp : Lamp) (command : GroupCommand) (link : Link) → Only (λ (r : Option Lamp). r ≡ dimmer-groups.group_of lamp command link)
  pub outlet-group-of : (sockets : Sockets) (command : GroupCommand) (link : Link)
      → Only (λ (r : Option Sockets). r ≡ outlet-groups.group_of sockets command link)
  pub decide-ruling-by : (m : Module) (l : List ℕ) (message : Message) → Only (λ (r : Ruling). r ≡ ruling_by m l message)
  pub device-step : (m : Module) (l s room : List ℕ) → Only (λ (d : Called). StepPromise m l s room d.answer d.links d.room)
  pub device-serve : (m : Module) (l : List ℕ) (heard : Message) (room : List ℕ)
      → Only (λ (d : Called). Comes (step_by m l heard room) d.answer d.links d.room)
  pub row-joined : (before : ClassOutcome) (own : Outcome) → Only (λ (r : ClassOutcome). r ≡ joined before own)
  pub row-of-seat : (seat : ℕ) (o : Outcome) (length read : ℕ) → Only (λ (r : ClassAnswer). r ≡ of_seat seat o length read)
  pub row-and-seat : (before : ClassAnswer) (o : Outcome) (read : ℕ) → Only (λ (r : ClassAnswer). r ≡ and_seat before o read)
  pub row-silent : (o : ClassOutcome) → Only (λ (r : ClassAnswer). r ≡ silent o)
  pub row-ended : (t : Progress) (answer : ClassAnswer) → Only (λ (r : Progress). r ≡ ended t answer)
  pub row-open : (n bytes : ℕ) (heard : Message) → Only (λ (r : Progress). r ≡ opened n bytes heard)
  pub row-noticed : (names : List Address) (n bytes : ℕ) (heard : Message) → Only (λ (r : Progress). r ≡ noticed names n bytes heard)
  pub row-settle : (t : Progress) → Only (λ (r : Progress). r ≡ settled_if_few t)
  pub class-class-step : (row : List Module) (l s room : List ℕ)
      → Only (λ (d : ClassCalled). ClassComes (class_of row l s room) d.answer d.row d.links d.room)
  pub class-class-seats : (seats : List Module) (n : ℕ) (l s room : List ℕ)
      → Only (λ (d : SeatsCalled). SeatsCome (seats_of seats n l s room) d.answer d.links d.room)
  pub seating-heed : (s : Seating) (l message room : List ℕ)
      → Only (λ (d : HeedCalled). Heeds (heed_of s l message room) s d.heeded d.links d.room)
  pub seating-alone : (m : Module) → Only (λ (r : Seating). r ≡ alone_with m)
  pub seating-class-with : (row : List Module) (count : ℕ) → Only (λ (r : Seating). r ≡ class_with row count)
  pub modem-seek : (s : List ℕ) → Only (λ (r : Seen). r ≡ seek_of s)
  pub modem-keep : (held : List ℕ) (from : ℕ) → Only (λ (after : List ℕ). after ≡ laid (drop from held) held)
  pub modem-serve : (s : Seating) (l frame room out : List ℕ)
      → Only (λ (t : Turn). ServePromise s l frame room out t.served t.links t.room t.out)
  pub roster-named : (word : List ℕ) → Only (λ (r : Option Kind). r ≡ named word)
  pub roster-bench-of : (kind : Kind) → Only (λ (r : Module). r ≡ bench_of kind)
  pub roster-fresh-at : (kind : Kind) (a : Address) → Only (λ (r : Module). r ≡ fresh_at kind a)
  pub roster-fresh-as : (kind : Kind) (i : Identity) → Only (λ (r : Module). r ≡ fresh_as kind i)
  pub roster-line-of : (line : List ℕ) → Only (λ (r : Line). r ≡ line_of line)
  pub roster-roster-of : (text : List ℕ) → Only (λ (r : Roster). r ≡ roster_of text)
  pub image-held-in : (image : List ℕ) → Only (λ (r : Option Module). r ≡ held_in image)
  pub image-is-image : (image : List ℕ) → Only (λ (r : Bool). r ≡ is_image image)
  pub image-store : (image : List ℕ) (m : Module) → Only (λ (after : List ℕ). after ≡ stored_if_own image m)
  pub image-tell : (report : List ℕ) (sent read : ℕ) → Only (λ (after : List ℕ). after ≡ laid_if_fits report (sent ∷ read ∷ []))
  pub embed-dreelish-step : (image l s room report : List ℕ)
      → Only (λ (c : Returned). Returns (returned_of image l s room report) c.number c.image c.links c.room c.report)
  pub embed-class-dreelish-class-step : (images : List ℕ) (n : ℕ) (l s room report : List ℕ)
      → Only (λ (c : Returned). Returns (class_returned_of images n l s room report) c.number c.image c.links c.room c.report)
  pub letters-put : (line : List ℕ) (at : ℕ) (bytes : List ℕ)
      → Only (λ (p : Put). IsPrefixLen p.count p.line × (cut_at p.count p.line ≡ laid_behind (cut_at at line) bytes))
  pub letters-new : (bytes : List ℕ) → Only (λ (page : Page). Begins bytes page)
  pub letters-laid : (page : Page) → Only (λ (r : List ℕ). r ≡ laid_in page)
  -- what a trait of std's, or the trait of kinds, gives of a type
  pub wire-equals : (a b : Address) → Only (λ (r : Bool). r ≡ equals a b)
  pub wire-standard : (command1 : ℕ) → Only (λ (r : Standard). r ≡ standard_of command1)
  pub wire-extended : (command1 : ℕ) → Only (λ (r : Extended). r ≡ extended_of command1)
  pub wire-group-command : (command1 : ℕ) → Only (λ (r : GroupCommand). r ≡ group_command_of command1)
  pub results-number : (o : Outcome) → Only (λ (r : ℕ). r ≡ number_of o)
  pub row-class-number : (o : ClassOutcome) → Only (λ (r : ℕ). r ≡ class_number_of o)
  pub load-fresh-lamp : Only (λ (r : Lamp). r ≡ fresh_lamp)
  pub load-fresh-sockets : Only (λ (r : Sockets). r ≡ fresh_sockets)
  pub letters-write-str : (page : Page) (text : List ℕ) → Only (λ (after : Page). Lays page text after)
  pub dimmer-entry-of : (lamp : Lamp) (q : Request) (d : List ℕ) (command : Command)
      → Only (λ (r : LoadEntry Lamp). r ≡ dimmer.entry_of lamp q d command)
  pub outlet-entry-of : (sockets : Sockets) (q : Request) (d : List ℕ) (command : Command)
      → Only (λ (r : LoadEntry Sockets). r ≡ outlet.entry_of sockets q d command)

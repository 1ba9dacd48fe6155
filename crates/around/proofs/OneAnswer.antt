-- One answer only, by one law.
use Prim.Native.Nat.{ℕ}
use mathlib.Core.Path.{◌≡◌, sym, ap, ◌∙◌}
use mathlib.Core.List.{List}
use Rattle.std.proofs.Common.{length, take, drop, ◌++◌}
use Rattle.std.proofs.lemmas.List.{take-append-drop}
use Rattle.io.specs.Counts.{IsPrefixLen}
use Rattle.wire.specs.declared.address.Address.{Address}
use Rattle.reply.specs.declared.due.Due.{Due}
use Rattle.reply.specs.Reply.{reply_of}
use Rattle.reply.specs.Sending.{Sending}
use Rattle.module.specs.declared.state.Module.{Module}
use Rattle.device.specs.Step.{Step, Comes}
use Rattle.row.specs.declared.progress.ClassAnswer.{ClassAnswer}
use Rattle.class.specs.Class.{ClassStep, ClassComes}
use Rattle.class.specs.Seats.{SeatsCome}
use Rattle.seating.specs.declared.heed.Seating.{Seating}
use Rattle.seating.specs.Heed.{Heed, Heeds}
use Rattle.modem.specs.Serve.{Turn, ServePromise}
use Rattle.letters.specs.Page.{Page, cut_at}
use Rattle.letters.specs.Laid.{Begins}
use Rattle.image.specs.Returned.{Returned, Returns}
use Rattle.around.specs.OneAnswer.{Only, Delivered, Called, ClassCalled, SeatsCalled, HeedCalled, Put, EachOnce}

-- a promise that says what its result is equal to
by_value : {A : Type 0} (z : A) → Only (λ (r : A). r ≡ z)
by_value z x y p q = p ∙ sym q

sending : (own : Address) (l : List ℕ) (due : Due) (room : List ℕ) → Only (λ (d : Delivered). Sending (reply_of own l due) room d.answer d.room)
sending own l due room x y p q = λ i. record { answer = by_value _ _ _ p.answers q.answers i; room = by_value _ _ _ p.leaves q.leaves i }

stepping : (t : Step) → Only (λ (d : Called). Comes t d.answer d.links d.room)
stepping t x y p q =
    λ i.
    record {
      answer =
          record {
            outcome = by_value _ _ _ p.outcome q.outcome i;
            length = by_value _ _ _ p.sent q.sent i;
            read = by_value _ _ _ p.read q.read i;
            next = by_value _ _ _ p.next q.next i;
          };
      links = by_value _ _ _ p.memory q.memory i;
      room = by_value _ _ _ p.room_after q.room_after i;
    }

-- the class's answer
answering : (t : ClassStep) {a b : ClassAnswer} {row row' : List Module} {l l' r r' : List ℕ} → ClassComes t a row l r → ClassComes t b row' l' r' → a ≡ b
answering t p q =
    λ i.
    record {
      outcome = by_value _ _ _ p.outcome q.outcome i;
      length = by_value _ _ _ p.sent q.sent i;
      read = by_value _ _ _ p.read q.read i;
      whom = by_value _ _ _ p.whom q.whom i;
    }

telling_class : (t : ClassStep) → Only (λ (d : ClassCalled). ClassComes t d.answer d.row d.links d.room)
telling_class t x y p q =
    λ i.
    record {
      answer = answering t p q i;
      row = by_value _ _ _ p.seats q.seats i;
      links = by_value _ _ _ p.memory q.memory i;
      room = by_value _ _ _ p.room_after q.room_after i;
    }

telling_seats : (t : ClassStep) → Only (λ (d : SeatsCalled). SeatsCome t d.answer d.links d.room)
telling_seats t x y p q =
    λ i.
    record {
      answer = record { answer = answering t p q i; seats = by_value _ _ _ p.seats q.seats i };
      links = by_value _ _ _ p.memory q.memory i;
      room = by_value _ _ _ p.room_after q.room_after i;
    }

heeding : (t : Heed) (s : Seating) → Only (λ (d : HeedCalled). Heeds t s d.heeded d.links d.room)
heeding t s x y p q =
    λ i.
    record {
      heeded =
          record {
            number = by_value _ _ _ p.number q.number i;
            length = by_value _ _ _ p.sent q.sent i;
            read = by_value _ _ _ p.read q.read i;
            whom = by_value _ _ _ p.whom q.whom i;
            next = by_value _ _ _ p.next q.next i;
          };
      links = by_value _ _ _ p.memory q.memory i;
      room = by_value _ _ _ p.room_after q.room_after i;
    }

serving : (s : Seating) (l frame room out : List ℕ) → Only (λ (t : Turn). ServePromise s l frame room out t.served t.links t.room t.out)
serving s l frame room out x y p q =
    λ i.
    record {
      served = by_value _ _ _ p.served q.served i;
      links = by_value _ _ _ p.links-after q.links-after i;
      room = by_value _ _ _ p.room_after q.room_after i;
      out = by_value _ _ _ p.out-after q.out-after i;
    }

embedded : (t : Returned) → Only (λ (c : Returned). Returns t c.number c.image c.links c.room c.report)
embedded t x y p q =
    λ i.
    record {
      number = by_value _ _ _ p.number q.number i;
      image = by_value _ _ _ p.image-after q.image-after i;
      links = by_value _ _ _ p.links-after q.links-after i;
      room = by_value _ _ _ p.room_after q.room_after i;
      report = by_value _ _ _ p.report-after q.report-after i;
    }

-- what is laid and what stands behind it make the line, and the count is as long as the first
putting : (page : Page) → Only (λ (p : Put). IsPrefixLen p.count p.line × (cut_at p.count p.line ≡ page))
putting page x y p q =
    let same : cut_at x.count x.line ≡ cut_at y.count y.line = by_value _ _ _ p.1 q.1 in
    let laid : take x.count x.line ≡ take y.count y.line = ap (λ (a : Page). a.laid) same in
    let whole : take x.count x.line ++ drop x.count x.line ≡ take y.count y.line ++ drop y.count y.line = ap (λ (a : Page). a.laid ++ a.behind) same in
    let line : x.line ≡ y.line = sym (take-append-drop x.count x.line) ∙ whole ∙ take-append-drop y.count y.line in
    let count : x.count ≡ y.count = p.0.1 ∙ ap length laid ∙ sym q.0.1 in
    λ i. record { count = count i; line = line i }

begun : (bytes : List ℕ) → Only (λ (page : Page). Begins bytes page)
begun bytes x y p q = λ i. record { laid = by_value _ _ _ p.0 q.0 i; behind = by_value _ _ _ p.1 q.1 i }

pub each_once : EachOnce
each_once =
    record {
      basis-lay = λ _ _. by_value _;
      basis-min = λ _ _. by_value _;
      wire-read = λ _ _ _ _ p q. by_value _ _ _ p.message q.message;
      wire-hear = λ _. by_value _;
      wire-heard-as = λ _. by_value _;
      wire-is-extended = λ _. by_value _;
      links-is-fit = λ _. by_value _;
      links-is-fit-size = λ _. by_value _;
      links-records = λ _. by_value _;
      links-record-or-blank = λ _ _. by_value _;
      links-is-end-mark = λ _. by_value _;
      links-up-to-mark = λ _ _ _. by_value _;
      links-search = λ _ _. by_value _;
      links-name-of = λ _. by_value _;
      links-place-of = λ _ _. by_value _;
      links-write = λ _ _ _. by_value _;
      reply-answering = λ _ _ _ _. by_value _;
      reply-send = sending;
      load-becomes = λ _ _. by_value _;
      load-stays = λ _ _ _. by_value _;
      load-entry-of = λ _ _ _ _ _ _. by_value _;
      module-fresh-dimmer = λ _. by_value _;
      module-fresh-outlet = λ _. by_value _;
      module-apply = λ _ _. by_value _;
      module-acked = λ _. by_value _;
      module-answered = λ _. by_value _;
      module-limited = λ _ _ _ _. by_value _;
      module-done = λ _ _. by_value _;
      module-wrote = λ _ _. by_value _;
      module-refused = λ _ _. by_value _;
      module-unlinked = λ _ _. by_value _;
      module-unlisted = λ _ _. by_value _;
      module-plan = λ _ _ _. by_value _;
      shared-shown-deed = λ _ _ _. by_value _;
      shared-shared-deed = λ _ _ _ _ _. by_value _;
      dimmer-group-of = λ _ _ _. by_value _;
      outlet-group-of = λ _ _ _. by_value _;
      decide-ruling-by = λ _ _ _. by_value _;
      device-step = λ _ _ _ _. stepping _;
      device-serve = λ _ _ _ _. stepping _;
      row-joined = λ _ _. by_value _;
      row-of-seat = λ _ _ _ _. by_value _;
      row-and-seat = λ _ _ _. by_value _;
      row-silent = λ _. by_value _;
      row-ended = λ _ _. by_value _;
      row-open = λ _ _ _. by_value _;
      row-noticed = λ _ _ _ _. by_value _;
      row-settle = λ _. by_value _;
      class-class-step = λ _ _ _ _. telling_class _;
      class-class-seats = λ _ _ _ _ _. telling_seats _;
      seating-heed = λ s _ _ _. heeding _ s;
      seating-alone = λ _. by_value _;
      seating-class-with = λ _ _. by_value _;
      modem-seek = λ _. by_value _;
      modem-keep = λ _ _. by_value _;
      modem-serve = serving;
      roster-named = λ _. by_value _;
      roster-bench-of = λ _. by_value _;
      roster-fresh-at = λ _ _. by_value _;
      roster-fresh-as = λ _ _. by_value _;
      roster-line-of = λ _. by_value _;
      roster-roster-of = λ _. by_value _;
      image-held-in = λ _. by_value _;
      image-is-image = λ _. by_value _;
      image-store = λ _ _. by_value _;
      image-tell = λ _ _ _. by_value _;
      embed-dreelish-step = λ _ _ _ _ _. embedded _;
      embed-class-dreelish-class-step = λ _ _ _ _ _ _. embedded _;
      letters-put = λ _ _ _. putting _;
      letters-new = λ _. begun _;
      letters-laid = λ _. by_value _;
      wire-equals = λ _ _. by_value _;
      wire-standard = λ _. by_value _;
      wire-extended = λ _. by_value _;
      wire-group-command = λ _. by_value _;
      results-number = λ _. by_value _;
      row-class-number = λ _. by_value _;
      load-fresh-lamp = by_value _;
      load-fresh-sockets = by_value _;
      letters-write-str = λ _ _. by_value _;
      dimmer-entry-of = λ _ _ _ _. by_value _;
      outlet-entry-of = λ _ _ _ _. by_value _;
    }

-- Record 0 may be named by 0000 or by 0FFF, and no record by another address than these and its own.
use Prim.Native.Nat.{ℕ, ◌+◌, ◌*◌, ◌%◌, ◌≤◌}
use mathlib.Core.Path.{◌≡◌, refl, sym, ◌∙◌, ap, subst}
use mathlib.Core.Bool.{Bool, true, false, not, ◌&&◌, ◌||◌}
use mathlib.Core.List.{List, [], ◌∷◌}
use lib.ListN.{take, drop}
use lib.Seq.{take-append-le}
use borrow.Author.Tests.{eq-eqb, le-leb}
use Rattle.std.specs.Prelude.{Ok, Option, Some, None}
use Rattle.basis.specs.Choice.{choose}
use Rattle.basis.specs.Spell.{spell}
use Rattle.basis.proofs.Choice.{either, beside}
use Rattle.basis.proofs.Spelled.{spelled}
use Rattle.wire.specs.declared.address.Address.{Address}
use Rattle.wire.specs.declared.request.Request.{Request}
use Rattle.wire.specs.declared.command.Extended.{Extended}
use Rattle.wire.specs.declared.command.Command.{Command}
use Rattle.wire.specs.declared.kind.MessageKind.{MessageKind}
use Rattle.wire.specs.declared.kind.Message.{Message}
use Rattle.wire.specs.Bytes.{to_of, named_in, command1_of, request_of, data_at, data_of, data_in, is_extended, is_whole, equals}
use Rattle.wire.specs.Commands.{extendeds}
use Rattle.wire.specs.Kinds.{is_direct, is_cleanup, is_broadcast, is_foreign, kind_of}
use Rattle.wire.specs.Checksum.{sum_of, is_sum_right, is_exempt, is_sum_wrong}
use Rattle.wire.specs.Reading.{bare, read_of}
use Rattle.links.specs.Record.{is_fit, records}
use Rattle.links.specs.Name.{place_of}
use Rattle.links.specs.Write.{written_if_there}
use Rattle.links.proofs.Named.{first_named, illegal, itself}
use Rattle.load.specs.declared.state.Load.{Load}
use Rattle.module.specs.declared.state.Module.{Module}
use Rattle.module.specs.declared.deed.Deed.{Deed}
use Rattle.module.specs.declared.plan.Plan.{Plan}
use Rattle.std.specs.Prelude.{Option}
use Rattle.module.specs.declared.deed.Write.{Write}
use Rattle.module.specs.Deed.{limited}
use Rattle.module.specs.Plan.{deed_plan}
use Rattle.module.proofs.Limited.{by_limits}
use Rattle.shared.specs.Extended.{get_deed, set_deed, record_deed, database_deed}
use Rattle.decide.specs.declared.rule.Ruling.{Ruling}
use Rattle.decide.specs.Dispatch.{entry_by, own_deed, deed_of}
use Rattle.decide.specs.Decide.{direct_plan}
use Rattle.decide.specs.Ruling.{ruling_by}
use Rattle.device.specs.Step.{Step, links_after, finish_of, step_of}
use Rattle.wire.specs.Asked.{Long}
use Rattle.promises.specs.Names.{asking, Fits, unchecked, checked, EitherName, NoOtherName}
use Rattle.promises.proofs.Ruled.{deed_in}
use Rattle.wire.proofs.CommandBytes.{long_command}
use Rattle.promises.proofs.Legal.{unlisted}

-- no kind has a database command of its own
abbrev database : Command
database = Command.Extended Extended.Database

deed_of_lem : (m : Module) (r : Request) (d : List ℕ) (n : ℕ) → deed_of m r d n database ≡ database_deed r d n
deed_of_lem m r d n = by_kind m.load
  where
    by_kind : (load : Load) → own_deed m r d n database (entry_by load r d database) ≡ database_deed r d n
    by_kind (Load.Dimmer lamp) = refl
    by_kind (Load.Outlet sockets) = refl

-- extended but not direct
unheard : (cleanup broadcast ours : Bool) → (not (false || cleanup || broadcast) || (true && not false)) || ((false || cleanup) && not ours) ≡ true
unheard true broadcast ours = refl
unheard false true ours = refl
unheard false false ours = refl

-- a sum that fits is not wrong
closed : (a : Bool) → a && false ≡ false
closed true = refl
closed false = refl

fits : (s : List ℕ) → command1_of s ≡ 0x2f → Fits s → is_sum_wrong s ≡ false
fits s c (unchecked z) =
    let exempt : is_exempt s ≡ true = rw (c, z) in
    ap (λ (b : Bool). (is_extended s && not b) && not (is_sum_right s)) exempt ∙ ap (λ (b : Bool). b && not (is_sum_right s)) (closed (is_extended s))
fits s c (checked z) =
    let right : is_sum_right s ≡ true = eq-eqb (sum_of (drop 7 s) % 256) 0 z in
    ap (λ (b : Bool). (is_extended s && not (is_exempt s)) && not b) right ∙ closed (is_extended s && not (is_exempt s))

-- a whole extended direct message with Command 1 = 2F and no wrong sum is heard as a database command, unless it is for another module
as_database_read : (u : List ℕ) (own : Address) → is_whole u ≡ true → is_extended u ≡ true → is_direct u ≡ true → command1_of u ≡ 0x2f → is_sum_wrong u ≡ false
    → read_of u own
    ≡ choose (is_foreign u own) (bare (named_in u) (Ok MessageKind.Foreign))
    (record { to = named_in u; reading = Ok (MessageKind.Direct (request_of u) database); «data» = data_of u })
unfolding read_of choose kind_of extendeds
as_database_read u own whole p v c sum =
    let kind : kind_of u ≡ MessageKind.Direct (request_of u) database = rw (v, p, c) in
    rw (whole, sum, kind)

-- messages by 0000 and by 0FFF, and the data bytes of each
module _ (m : Module) (l room h r : List ℕ) (x y : ℕ) where
  abbrev s : List ℕ
  s = asking (spell 11 0 h) 0x00 0x00 (spell 9 0 r) x

  abbrev t : List ℕ
  t = asking (spell 11 0 h) 0x0f 0xff (spell 9 0 r) y

  abbrev d : List ℕ
  d = data_of s

  abbrev e : List ℕ
  e = data_of t

  abbrev q : Request
  q = request_of s

  -- the deed is one
  get_alike : (place : Option ℕ) → get_deed d place ≡ get_deed e place
  get_alike (Some k) = refl
  get_alike None = refl

  set_alike : (place : Option ℕ) → set_deed d place ≡ set_deed e place
  set_alike (Some k) = refl
  set_alike None = refl

  deed_alike : database_deed q d (records l) ≡ database_deed q e (records l)
  unfolding database_deed record_deed
  deed_alike =
      let place = place_of (records l) 0x0000 in
      let same = first_named (records l) in
      beside ◌≡◌ _ (beside ◌≡◌ _ (get_alike place ∙ ap (get_deed e) same) (beside ◌≡◌ _ (set_alike place ∙ ap (set_deed e) same) refl)) refl

  -- and what it writes stands before Data 14
  abbrev Writes : Option Write → Type 0
  Writes writing = links_after l d writing ≡ links_after l e writing

  got : (place : Option ℕ) → Writes (deed_plan m q (get_deed e place)).writing
  got (Some k) = refl
  got None = refl

  set : (place : Option ℕ) → Writes (deed_plan m q (set_deed e place)).writing
  unfolding limited choose
  set (Some k) =
      by_limits (λ (deed : Deed). Writes (deed_plan m q deed).writing) 1 8 (data_at s 5) (Deed.Written (record { index = k; count = data_at s 5 }))
      (λ a b. rw (le-leb 1 (data_at s 5) a, le-leb (data_at s 5) 8 b) (ap (written_if_there l k) (early b)))
      refl
    where
      early : data_at s 5 ≤ 8 → take (data_at s 5) (drop 5 d) ≡ take (data_at s 5) (drop 5 e)
      early b = take-append-le (data_at s 5) (spell 8 1 r) (x ∷ []) b ∙ sym (take-append-le (data_at s 5) (spell 8 1 r) (y ∷ []) b)
  set None = refl

  written_alike : Writes (deed_plan m q (database_deed q e (records l))).writing
  unfolding database_deed record_deed
  written_alike =
      let P : Deed → Type 0 = λ deed. Writes (deed_plan m q deed).writing in
      let place = place_of (records l) 0x0fff in
      either P _ (either P _ (got place) (either P _ (set place) refl)) refl

  -- so the ruling is one, and what comes of it too
  abbrev heard_as : List ℕ → Message
  heard_as bytes = record { to = named_in s; reading = Ok (MessageKind.Direct q database); «data» = bytes }

  ruling_alike : ruling_by m l (heard_as d) ≡ ruling_by m l (heard_as e)
  unfolding ruling_by direct_plan
  ruling_alike =
      let deed : deed_of m q d (records l) database ≡ deed_of m q e (records l) database
      = deed_of_lem m q d (records l) ∙ deed_alike ∙ sym (deed_of_lem m q e (records l)) in
      rw deed

  ruled_writes : Writes (ruling_by m l (heard_as e)).plan.writing
  unfolding ruling_by direct_plan
  ruled_writes =
      let carried : Writes (deed_plan m q (deed_of m q e (records l) database)).writing = rw (deed_of_lem m q e (records l)) written_alike in
      either (λ (z : Ruling). Writes z.plan.writing) (is_fit l) (either (λ (z : Plan). Writes z.writing) _ carried refl) refl

  finished : (z : Ruling) → Writes z.plan.writing → finish_of m l d room z ≡ finish_of m l e room z
  finished z w = rw w

  abbrev outcome : Message → Step
  outcome a = finish_of m l a.«data» room (ruling_by m l a)

  served : outcome (heard_as d) ≡ outcome (heard_as e)
  served = ap (finish_of m l d room) ruling_alike ∙ finished (ruling_by m l (heard_as e)) ruled_writes

  -- where a message is not extended, or is not direct, both are read alike
  abbrev own : Address
  own = m.identity.address

  not_extended : is_extended s ≡ false → read_of s own ≡ read_of t own
  unfolding read_of choose
  not_extended p = rw p

  foreign : is_extended s ≡ true → is_direct s ≡ false → is_foreign s own ≡ true
  foreign p v = rw (p, v) (unheard (is_cleanup s) (is_broadcast s) (equals (to_of s) own))

  not_direct : is_extended s ≡ true → is_direct s ≡ false → read_of s own ≡ read_of t own
  unfolding read_of choose
  not_direct p v = rw (foreign p v)

  -- else both are heard as database commands, unless they are for another module
  both_heard : command1_of s ≡ 0x2f → is_extended s ≡ true → is_direct s ≡ true → is_sum_wrong s ≡ false → is_sum_wrong t ≡ false → step_of m l s room ≡ step_of m l t room
  unfolding choose
  both_heard c p v sum-s sum-t =
      let whole-s : is_whole s ≡ true = rw p in
      let whole-t : is_whole t ≡ true = rw p in
      ap outcome (as_database_read s own whole-s p v c sum-s)
      ∙ beside (λ (a b : Message). outcome a ≡ outcome b) (is_foreign s own) refl served
      ∙ sym (ap outcome (as_database_read t own whole-t p v c sum-t))

  by_either : command1_of h ≡ 0x2f → Fits s → Fits t → step_of m l s room ≡ step_of m l t room
  by_either c f g = go (is_extended s) (is_direct s) refl refl
    where
      go : (a b : Bool) → is_extended s ≡ a → is_direct s ≡ b → step_of m l s room ≡ step_of m l t room
      go false b p v = ap outcome (not_extended p)
      go true false p v = ap outcome (not_direct p v)
      go true true p v = both_heard c p v (fits s c f) (fits t c g)

pub either_name : EitherName
either_name m l room head middle x y a b c f g = subst Equal (spelled 9 middle b) (subst Both (spelled 11 head a) go) f g
  where
    Both : List ℕ → Type 0
    Both h =
        Fits (asking h 0x00 0x00 (spell 9 0 middle) x) → Fits (asking h 0x0f 0xff (spell 9 0 middle) y) →
        step_of m l (asking h 0x00 0x00 (spell 9 0 middle) x) room ≡ step_of m l (asking h 0x0f 0xff (spell 9 0 middle) y) room

    Equal : List ℕ → Type 0
    Equal r =
        Fits (asking head 0x00 0x00 r x) → Fits (asking head 0x0f 0xff r y) →
        step_of m l (asking head 0x00 0x00 r x) room ≡ step_of m l (asking head 0x0f 0xff r y) room

    go : Both (spell 11 0 head)
    go u v = by_either m l room head middle x y c u v

-- a database command that names no record is not listed
unnamed : (r : Request) (d : List ℕ) (n : ℕ) → place_of n (data_in d 3 * 256 + data_in d 4) ≡ None → database_deed r d n ≡ Deed.Unlisted
unfolding database_deed record_deed
unnamed r d n nowhere =
    let P : Deed → Type 0 = λ deed. deed ≡ Deed.Unlisted in
    either P _ (either P _ (ap (get_deed d) nowhere) (either P _ (ap (set_deed d) nowhere) refl)) refl

as_database : (m : Module) (l s : List ℕ) → Long s 0x2f → deed_in m l s ≡ database_deed (request_of s) (data_of s) (records l)
unfolding extendeds choose
as_database m l s x = rw (long_command s 0x2f x) (deed_of_lem m (request_of s) (data_of s) (records l))

pub no_other_name : NoOtherName
no_other_name m l s room h enough x not-zero none =
    let address = data_at s 3 * 256 + data_at s 4 in
    let nowhere = illegal (records l) address (λ k there e. none k there (rw (itself address not-zero) at e)) in
    unlisted m l s room h enough (as_database m l s x ∙ unnamed (request_of s) (data_of s) (records l) nowhere)

-- Demand 3.
use Prim.Native.Nat.{ℕ, ◌≤◌}
use mathlib.Core.Path.{◌≡◌, refl, sym, ◌∙◌, ap}
use mathlib.Core.Bool.{Bool, true, false}
use mathlib.Core.List.{List, [], ◌∷◌}
use mathlib.Core.Logic.{◌⊎◌, inl, inr}
use native.Mathlib.Omega.{arith}
use lib.Dec.{ltb}
use lib.ListN.{length}
use borrow.Author.Tests.{le-ltb}
use Rattle.basis.specs.Choice.{choose}
use Rattle.basis.specs.Laid.{laid}
use Rattle.basis.proofs.Choice.{either, beside}
use Rattle.wire.specs.declared.request.Request.{Request}
use Rattle.wire.specs.Bytes.{from_of, flags_of, command2_of, request_of, data_of}
use Rattle.wire.specs.Kinds.{is_direct}
use Rattle.wire.specs.Reading.{well_formed}
use Rattle.links.specs.Record.{is_fit, records}
use Rattle.links.specs.Live.{Linked}
use Rattle.links.proofs.Linked.{linked_or_not}
use Rattle.reply.specs.declared.due.ReplyType.{ReplyType}
use Rattle.reply.specs.Message.{reply_flags, standard}
use Rattle.reply.specs.Reply.{reply_of}
use Rattle.module.specs.declared.state.Identity.{Identity}
use Rattle.module.specs.declared.state.Module.{Module}
use Rattle.module.specs.declared.deed.Ack.{Ack}
use Rattle.module.specs.declared.deed.Deed.{Deed}
use Rattle.module.specs.declared.plan.Plan.{Plan}
use Rattle.module.specs.Change.{apply}
use Rattle.module.specs.Plan.{deed_plan}
use Rattle.decide.specs.Ruling.{heard_by, ruling_of}
use Rattle.decide.proofs.Sender.{exempt-plan, stranger-plan}
use Rattle.device.specs.Step.{Step, links_after, step_of}
use Rattle.device.specs.Run.{Call, State, call_of, left_by, run_of, end_of}
use Rattle.promises.specs.Room.{due_to}
use Rattle.promises.specs.Demand3.{Stranger, ping_or_id, NakExactly, LearnsNothing, none, keep, strike, Strikes, AlwaysStrikes, Unmissed}
use Rattle.wire.specs.Asked.{command_in}
use Rattle.promises.proofs.Ruled.{deed_in, ruled, ruled_linked}
use Rattle.promises.proofs.Stranger.{exempt, stranger_bytes, ruling_quiet, unaltered}

-- bytes sent and room afterwards, by the reply that is due
abbrev sent_where : List ℕ → List ℕ → List ℕ
sent_where room bytes = choose (ltb (length room) (length bytes)) [] bytes

abbrev room_where : List ℕ → List ℕ → List ℕ
room_where room bytes = choose (ltb (length room) (length bytes)) room (laid bytes room)

module _ (m : Module) (l s room : List ℕ) where
  reply_by : (step_of m l s room).reply ≡ sent_where room (due_to m l s)
  reply_by = beside (λ (t : Step) (bytes : List ℕ). t.reply ≡ bytes) _ refl refl

  all_sent : length (due_to m l s) ≤ length room → (step_of m l s room).reply ≡ due_to m l s
  unfolding choose
  all_sent enough = reply_by ∙ rw (le-ltb (length room) (length (due_to m l s)) enough)

  room_by : (step_of m l s room).room ≡ room_where room (due_to m l s)
  room_by = beside (λ (t : Step) (bytes : List ℕ). t.room ≡ bytes) _ refl refl

-- a command that is looked at is never answered with FF: byte 6 of the reply is an ACK's, or its Command 2 is FB
module _ (m : Module) (l : List ℕ) (r : Request) where
  abbrev nak : List ℕ
  nak = standard m.identity.address r.from ReplyType.Nak r.hops r.command1 0xff

  abbrev due_of : Plan → List ℕ
  due_of p = reply_of m.identity.address l p.due

  ack_or_nak : {A : Type 0} → reply_flags ReplyType.Ack r.hops ≡ reply_flags ReplyType.Nak r.hops → A
  ack_or_nak q = absurd (omega arith)

  not_ff : (deed : Deed) → due_of (deed_plan m r deed) ≡ nak → ⊥
  not_ff (Deed.Done change Ack.Repeated) q = ack_or_nak (ap flags_of q)
  not_ff (Deed.Done change (Ack.Telling x)) q = ack_or_nak (ap flags_of q)
  not_ff (Deed.Done change (Ack.AfterDelta x)) q = ack_or_nak (ap flags_of q)
  not_ff (Deed.Done change Ack.WithId) q = ack_or_nak (ap flags_of q)
  not_ff (Deed.Done change (Ack.WithProperties d)) q = ack_or_nak (ap flags_of q)
  not_ff (Deed.Done change (Ack.WithRecords asked)) q = ack_or_nak (ap flags_of q)
  not_ff (Deed.Written write) q = ack_or_nak (ap flags_of q)
  not_ff Deed.Unlisted q = let z : ◌≡◌ {A = ℕ} 0xfb 0xff = ap command2_of q in omega arith

module _ (m : Module) (l s : List ℕ) (f : is_fit l ≡ true) (w : well_formed s m.identity.address ≡ true) (d : is_direct s ≡ true) where
  looked_at : (ruling_of m l s).plan ≡ deed_plan m (request_of s) (deed_in m l s) → due_to m l s ≡ nak m l (request_of s) → ⊥
  looked_at e q = not_ff m l (request_of s) (deed_in m l s) (ap (due_of m l (request_of s)) (sym e) ∙ q)

  only_then : due_to m l s ≡ nak m l (request_of s) → (ping_or_id s ≡ false) × Stranger l s
  only_then q = (go (ping_or_id s) refl, λ h. looked_at (ruled_linked m l s f w d h) q)
    where
      go : (t : Bool) → ping_or_id s ≡ t → ping_or_id s ≡ false
      go true e = absurd (looked_at (ruled m l s f w d ∙ exempt-plan m l (request_of s) (data_of s) (records l) (command_in s) (exempt s ∙ e)) q)
      go false e = e

  then : (ping_or_id s ≡ false) × Stranger l s → due_to m l s ≡ nak m l (request_of s)
  then h = ap (due_of m l (request_of s)) (ruled m l s f w d ∙ stranger-plan m l (request_of s) (data_of s) (records l) (command_in s) h.1 (exempt s ∙ h.0))

pub nak_exactly : NakExactly
nak_exactly m l s room f w d enough =
    let sent = all_sent m l s room enough in
    (λ e. only_then m l s f w d (sym sent ∙ e), λ h. sent ∙ then m l s f w d h)

pub learns_nothing : LearnsNothing
learns_nothing m n l k s room i f g a b =
    let due : due_to m l s ≡ due_to n k s = (ruling_quiet m l s a f).sent ∙ ap (λ (j : Identity). stranger_bytes j s) i ∙ sym (ruling_quiet n k s b g).sent in
    (reply_by m l s room ∙ ap (sent_where room) due ∙ sym (reply_by n k s room), room_by m l s room ∙ ap (room_where room) due ∙ sym (room_by n k s room))

-- a stranger's call leaves the state as it was
pub still : (s : State) (c : Call) → Stranger s.links c.message → left_by (call_of s c) ≡ s
still s c h =
    let u = unaltered s.device s.links c.message h in
    either (λ (t : Step). left_by t ≡ s) _ refl
    (λ i. record { device = apply (u.0 i) s.device; links = links_after s.links (heard_by s.device c.message).«data» (u.1 i) })

pub always_strikes : AlwaysStrikes
always_strikes s [] = record { kept = []; steps = []; struck = none }
always_strikes s (c ∷ cs) = go (linked_or_not s.links (from_of c.message)) (always_strikes (left_by (call_of s c)) cs)
  where
    go : Linked s.links (from_of c.message) ⊎ Stranger s.links c.message → Strikes (left_by (call_of s c)) cs → Strikes s (c ∷ cs)
    go (inl h) rest = record { kept = c ∷ rest.kept; steps = call_of s c ∷ rest.steps; struck = keep h rest.struck }
    go (inr h) rest = record { kept = rest.kept; steps = rest.steps; struck = strike h rest.struck }

pub unmissed : Unmissed
unfolding run_of end_of
unmissed s cs kept steps none = (refl, refl)
unmissed s cs kept steps (keep {c = c} {cs = rest} {kept = others} {steps = theirs} h more) =
    let r = unmissed (left_by (call_of s c)) rest others theirs more in
    (ap (λ (z : List Step). call_of s c ∷ z) r.0, r.1)
unmissed s cs kept steps (strike {c = c} {cs = rest} h more) =
    let r = unmissed (left_by (call_of s c)) rest kept steps more in
    let same = still s c h in
    (ap (λ (x : State). run_of x kept) (sym same) ∙ r.0, ap (λ (x : State). end_of x kept) (sym same) ∙ r.1)

-- A linked sender's command is looked at, a stranger's is not.
use Prim.Native.Nat.{ℕ}
use mathlib.Core.Path.{◌≡◌, refl, ◌∙◌}
use mathlib.Core.Bool.{Bool, true, false, ◌||◌}
use mathlib.Core.List.{List}
use Rattle.std.specs.Prelude.{Some, None, is_ok}
use Rattle.basis.specs.Choice.{choose}
use Rattle.wire.specs.declared.address.Address.{Address}
use Rattle.wire.specs.declared.request.Request.{Request}
use Rattle.wire.specs.declared.command.Command.{Command}
use Rattle.wire.specs.declared.command.GroupCommand.{GroupCommand}
use Rattle.links.specs.declared.search.Wanted.{Wanted}
use Rattle.links.specs.Live.{Linked}
use Rattle.links.specs.Search.{search_of}
use Rattle.links.proofs.Following.{told_by}
use Rattle.links.proofs.Linked.{found, unfound, unfound-in-group}
use Rattle.reply.specs.declared.due.ReplyType.{ReplyType}
use Rattle.module.specs.declared.state.Module.{Module}
use Rattle.module.specs.declared.plan.Plan.{Plan}
use Rattle.module.specs.Plan.{unlinked, deed_plan}
use Rattle.decide.specs.Dispatch.{deed_of, group_deed_by}
use Rattle.decide.specs.Groups.{is_call, unconcerned, broadcast_by, broadcast_plan, cleanup_by, cleanup_plan}
use Rattle.decide.specs.Decide.{needs_no_link, direct_wanted, sender_in_group, broadcast_wanted, direct_plan}

module _ (m : Module) (l : List ℕ) (r : Request) where
  module _ (d : List ℕ) (n : ℕ) (command : Command) where
    abbrev plan : Plan
    plan = deed_plan m r (deed_of m r d n command)

    abbrev ruled : Plan
    ruled = direct_plan m r d n command (search_of l (direct_wanted r command)).found

    -- whether it needs the link or not
    pub linked-plan : Linked l r.from → ruled ≡ plan
    unfolding direct_plan choose
    linked-plan h = go (needs_no_link command)
      where
        go : (t : Bool) → choose (t || is_ok (search_of l (choose t None (Some (Wanted.Sender r.from)))).found) plan (unlinked ReplyType.Nak r) ≡ plan
        go true = refl
        go false = rw (told_by (search_of l (Some (Wanted.Sender r.from))).found ∙ found l r.from (λ link. true) false true (λ link. refl) h)

    pub exempt-plan : needs_no_link command ≡ true → ruled ≡ plan
    unfolding direct_plan choose
    exempt-plan e = rw e

    pub stranger-plan : (Linked l r.from → ⊥) → needs_no_link command ≡ false → ruled ≡ unlinked ReplyType.Nak r
    unfolding direct_plan choose
    stranger-plan stranger e = rw (e, told_by (search_of l (Some (Wanted.Sender r.from))).found ∙ unfound l r.from (λ link. true) false stranger)

  pub stranger_cleanup : (Linked l r.from → ⊥) → (command : GroupCommand) → cleanup_plan m.load r command (search_of l (sender_in_group r)).found ≡ unlinked ReplyType.CleanupNak r
  stranger_cleanup stranger command = unfound-in-group l r.from (λ link. cleanup_by r (group_deed_by m.load command link)) (unlinked ReplyType.CleanupNak r) stranger r.command2

pub stranger_broadcast : (m : Module) (l : List ℕ) (from to : Address) → (Linked l from → ⊥) → (command : GroupCommand)
    → broadcast_plan m.load command (search_of l (broadcast_wanted from to command)).found ≡ unconcerned
unfolding choose
stranger_broadcast m l from to stranger command = go (is_call to command)
  where
    go : (t : Bool) → broadcast_plan m.load command (search_of l (choose t (Some (Wanted.Responder from to.low)) None)).found ≡ unconcerned
    go true = unfound-in-group l from (λ link. broadcast_by (group_deed_by m.load command link)) unconcerned stranger to.low
    go false = refl

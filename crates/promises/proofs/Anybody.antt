-- Anybody's ping and ID request are answered.
use Prim.Native.Nat.{ℕ, ◌≤◌}
use mathlib.Core.Path.{◌≡◌, ◌∙◌}
use mathlib.Core.Bool.{true}
use mathlib.Core.List.{List}
use lib.ListN.{length}
use Rattle.wire.specs.Bytes.{request_of, data_of}
use Rattle.wire.specs.Kinds.{is_direct}
use Rattle.wire.specs.Reading.{well_formed}
use Rattle.links.specs.Record.{is_fit, records}
use Rattle.module.specs.declared.state.Module.{Module}
use Rattle.module.specs.Plan.{deed_plan}
use Rattle.decide.specs.Ruling.{ruling_of}
use Rattle.decide.proofs.Sender.{exempt-plan}
use Rattle.device.specs.Step.{step_of}
use Rattle.promises.specs.Demand3.{ping_or_id}
use Rattle.promises.specs.Legal.{ping, id-request, sends}
use Rattle.promises.specs.LegalAny.{Legal, shared}
use Rattle.promises.specs.Anybody.{Answered, PingAnswered, IdAnswered}
use Rattle.wire.specs.Asked.{command_in}
use Rattle.promises.proofs.Ruled.{deed_in, ruled, read_by, unread}
use Rattle.promises.proofs.Stranger.{exempt}
use Rattle.promises.proofs.Legal.{taken-looked-at}

module _ (m : Module) (l s : List ℕ) (f : is_fit l ≡ true) (w : well_formed s m.identity.address ≡ true) (d : is_direct s ≡ true) where
  -- it is looked at, whoever sent it
  pub ruled-exempt : ping_or_id s ≡ true → (ruling_of m l s).plan ≡ deed_plan m (request_of s) (deed_in m l s)
  ruled-exempt x = ruled m l s f w d ∙ exempt-plan m l (request_of s) (data_of s) (records l) (command_in s) (exempt s ∙ x)

  answered : (room bytes : List ℕ) → ping_or_id s ≡ true → length bytes ≤ length room → Legal m l s (sends m l bytes)
      → Answered m l room bytes (step_of m l s room)
  answered room bytes x enough legal =
      record {
        taken = taken-looked-at m l s w (ruled-exempt x) room (sends m l bytes) enough legal;
        read = read_by m l s room ∙ unread m l s f w d (exempt s ∙ x);
      }

pub ping_answered : PingAnswered
ping_answered m l s room f w d x enough = answered m l s f w d room _ (rw (x.0, x.1)) enough (shared (ping x))

pub id_answered : IdAnswered
id_answered m l s room f w d x enough = answered m l s f w d room _ (rw (x.0, x.1)) enough (shared (id-request x))

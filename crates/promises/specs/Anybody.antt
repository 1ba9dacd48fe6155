-- What anybody gets, linked or not ("Direct commands, standard": ping and ID request need no link).
use Rattle.std.specs.Prelude.{ℕ, ◌≤◌, ◌≡◌, true, List, ◌++◌, length}
use Rattle.wire.specs.Kinds.{is_direct}
use Rattle.wire.specs.Reading.{well_formed}
use Rattle.links.specs.Record.{is_fit}
use Rattle.module.specs.declared.state.Module.{Module}
use Rattle.device.specs.Step.{Step, step_of}
use Rattle.wire.specs.Asked.{Short}
use Rattle.promises.specs.Legal.{repeated, id_broadcast, sends, Taken}

-- result 0, these bytes sent, nothing altered, and no record read
pub record Answered (m : Module) (l room bytes : List ℕ) (t : Step) : Type 0 where
  pub taken : Taken room (sends m l bytes) t
  pub read : t.read ≡ 0

-- 0F ping: ACK
abbrev pub PingAnswered : Type 0
PingAnswered =
    (m : Module) (l s room : List ℕ) → is_fit l ≡ true → well_formed s m.identity.address ≡ true → is_direct s ≡ true →
    Short s 0x0f → 9 ≤ length room → Answered m l room (repeated m s) (step_of m l s room)

-- 10 ID request: ACK, then the ID broadcast
abbrev pub IdAnswered : Type 0
IdAnswered =
    (m : Module) (l s room : List ℕ) → is_fit l ≡ true → well_formed s m.identity.address ≡ true → is_direct s ≡ true →
    Short s 0x10 → 18 ≤ length room → Answered m l room (repeated m s ++ id_broadcast m s) (step_of m l s room)

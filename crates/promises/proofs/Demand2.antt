-- Demand 2, message after message.
use mathlib.Core.Path.{◌≡◌, refl, ◌∙◌, ap}
use mathlib.Core.List.{◌∷◌, map}
use Rattle.device.specs.Run.{State, call_of, left_by, run_of, end_of}
use Rattle.device.proofs.Parts.{run_parts}
use Rattle.promises.specs.Demand2.{AtEach, seen_of, seen_by, none, next, AsDefined}

pub at_each : AtEach
unfolding run_of
at_each s before c after = run_parts s before (c ∷ after)

pub served : AsDefined
unfolding run_of end_of
served s cs seen e none = (refl, refl)
served s cs seen e (next {c = c} {cs = rest} {seen = later} a links room p more) =
    let left : ◌≡◌ {A = State} (record { device = a.next; links = links }) (left_by (call_of s c)) = λ i. record { device = p.next i; links = p.memory i } in
    let one : seen_by a room ≡ seen_of (call_of s c) = λ i. record { outcome = p.outcome i; length = p.sent i; read = p.read i; room = p.room_after i } in
    let others = served (record { device = a.next; links = links }) rest later e more in
    let same : later ≡ map seen_of (run_of (left_by (call_of s c)) rest) = others.0 ∙ ap (λ (x : State). map seen_of (run_of x rest)) left in
    (λ i. one i ∷ same i, others.1 ∙ ap (λ (x : State). end_of x rest) left)

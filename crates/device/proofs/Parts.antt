-- Calls in two parts: the second part finds the state that the first one left.
use mathlib.Core.Path.{◌≡◌, refl, ap}
use mathlib.Core.List.{List, [], ◌∷◌, ◌++◌}
use Rattle.device.specs.Step.{Step}
use Rattle.device.specs.Run.{Call, State, call_of, left_by, run_of, end_of}

pub run_parts : (s : State) (first second : List Call) → run_of s (first ++ second) ≡ run_of s first ++ run_of (end_of s first) second
unfolding run_of end_of
run_parts s [] second = refl
run_parts s (c ∷ first) second = ap (λ (z : List Step). call_of s c ∷ z) (run_parts (left_by (call_of s c)) first second)

pub end_parts : (s : State) (first second : List Call) → end_of s (first ++ second) ≡ end_of (end_of s first) second
unfolding end_of
end_parts s [] second = refl
end_parts s (c ∷ first) second = end_parts (left_by (call_of s c)) first second

use Rattle.std.proofs.Common.{◌≡◌, take, drop, ◌++◌}
use Rattle.basis.proofs.lay.Given as goal

-- the bytes before i are laid, and those of the room from i on stand as they stood
abbrev pub invariant-loop-i : goal.invariant-loop-i
invariant-loop-i l = l.room ≡ take l.i l.bytes ++ drop l.i l.fn.room

-- Moving the first i elements up in the slice as it is gives what the contract says.
use Rattle.std.proofs.Common.{◌≡◌, ◌+◌, ◌++◌, take, drop}
use Rattle.memory.proofs.move_up.Given as goal

abbrev pub invariant-loop-i : goal.invariant-loop-i
invariant-loop-i g l =
    take l.to l.s ++ (take l.i (drop l.from l.s) ++ drop (l.to + l.i) l.s) ≡ take l.to l.initial.s ++ (take l.n (drop l.from l.initial.s) ++ drop (l.to + l.n) l.initial.s)

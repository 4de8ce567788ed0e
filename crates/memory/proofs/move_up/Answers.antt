-- Moving the first i elements up in the slice as it is gives what the contract says.
use Rattle.std.proofs.Common.{◌-◌, arith}
use Rattle.memory.proofs.Writes.{move_next}
use Rattle.memory.proofs.move_up.Goals as goal

pub loop-i-preserved : goal.loop-i-preserved
loop-i-preserved g c =
    let l = c.loop-i in
    let f = c.args in
    let e = move_next f.from f.to l.i (l.i - 1) c.index-s-from.result l.s (omega arith) (omega arith) (omega arith) c.index-s-from.is in
    cc

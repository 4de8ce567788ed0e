-- The elements up to the index are zero, and the others as they were.
use Rattle.std.proofs.Common.{add-one, arith}
use Rattle.memory.proofs.Writes.{clear_next}
use Rattle.memory.proofs.clear.Goals as goal

pub loop-x-preserved : goal.loop-x-preserved
loop-x-preserved g c =
    let l = c.loop-x in
    rw (l.invariant, add-one) (clear_next c.args.zero l.x-index _ (omega arith))

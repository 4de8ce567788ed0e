-- `sift_up` meets its contract: at each turn v may fill the hole, but for its parent.
use native.Mathlib.Omega.{arith}
use Rattle.order_heap.proofs.Holes.{rising-next}
use Rattle.order_heap.proofs.sift.sift_up.Goals as goal

pub loop-i-preserved : goal.loop-i-preserved
loop-i-preserved c = rising-next c.loop-i.invariant (omega arith) (omega arith)

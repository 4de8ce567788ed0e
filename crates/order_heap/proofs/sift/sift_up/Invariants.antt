-- `sift_up` meets its contract: at each turn v may fill the hole, but for its parent.
use Rattle.order_heap.proofs.Holes.{Rising}
use Rattle.order_heap.proofs.sift.sift_up.Given as goal

abbrev pub invariant-loop-i : goal.invariant-loop-i
invariant-loop-i l = Rising l.leaf l.v l.i l.initial.h l.h

abbrev pub decreases-loop-i : goal.decreases-loop-i
decreases-loop-i l = l.i

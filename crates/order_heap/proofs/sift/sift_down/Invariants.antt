-- `sift_down` meets its contract: at each turn the hole is the only place out of order, and whatever fills it completes the bag.
use Prim.Native.Nat.{◌-◌}
use lib.ListN.{length}
use Rattle.order_heap.proofs.Holes.{Sinking}
use Rattle.order_heap.proofs.sift.sift_down.Given as goal

abbrev pub invariant-loop-i : goal.invariant-loop-i
invariant-loop-i l = Sinking l.i l.initial.h l.h

abbrev pub decreases-loop-i : goal.decreases-loop-i
decreases-loop-i l = length l.initial.h - l.i

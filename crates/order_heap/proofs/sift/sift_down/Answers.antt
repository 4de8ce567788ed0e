-- `sift_down` meets its contract: at each turn the hole is the only place out of order, and whatever fills it completes the bag.
use native.Mathlib.Omega.{arith}
use borrow.Author.Rules.{rules}
use Rattle.order_heap.proofs.Holes.{sinking-next, sinking-last}
use Rattle.order_heap.proofs.sift.sift_down.Goals as goal

pub loop-i-preserved : goal.loop-i-preserved
loop-i-preserved c = sinking-next c.loop-i.invariant (search rules) c.lesser-c.ensures

pub returns-then-i-n : goal.returns-then-i-n
returns-then-i-n c = sinking-last c.loop-i.invariant _ (omega arith) (omega arith)

-- `spot_along` meets its contract: the nodes left, stored in the memory as it is now, give what is promised.
use native.Mathlib.Omega.{arith}
use Rattle.order_spaces_near.proofs.Spotting.{spotting-in, spotting-next, spotting-all}
use Rattle.order_spaces_near.proofs.spot_along.Goals as goal

pub overflow_add-work : goal.overflow_add-work
overflow_add-work c = omega (arith, spotting-in c.requires c.loop-t.invariant (omega arith))

pub offset_bounds-work-a-in-loop-t : goal.offset_bounds-work-a-in-loop-t
offset_bounds-work-a-in-loop-t c = omega (arith, spotting-in c.requires c.loop-t.invariant (omega arith))

pub bounds-work-a-in-loop-t : goal.bounds-work-a-in-loop-t
bounds-work-a-in-loop-t c = omega (arith, spotting-in c.requires c.loop-t.invariant (omega arith))

pub loop-t-preserved : goal.loop-t-preserved
loop-t-preserved c = spotting-next c.requires c.loop-t.invariant (omega arith)

pub returns : goal.returns
returns c = spotting-all c.requires c.loop-t.invariant (omega arith)

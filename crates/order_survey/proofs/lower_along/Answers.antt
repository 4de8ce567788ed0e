-- `lower_along` meets its contract: the nodes left, taken from the memory as it is now, give the distances that are promised.
use native.Mathlib.Omega.{arith}
use Rattle.order_survey.proofs.Lowers.{follows-inside, follows-asks, follows_next, follows-all}
use Rattle.order_survey.proofs.lower_along.Goals as goal

pub overflow_add-d : goal.overflow_add-d
overflow_add-d g c = omega (arith, follows-inside c.requires.0 c.loop-t.invariant (omega arith))

pub offset_bounds-work-a-in-loop-t : goal.offset_bounds-work-a-in-loop-t
offset_bounds-work-a-in-loop-t g c = omega (arith, follows-inside c.requires.0 c.loop-t.invariant (omega arith))

pub bounds-work-a-in-loop-t : goal.bounds-work-a-in-loop-t
bounds-work-a-in-loop-t g c = omega (arith, follows-inside c.requires.0 c.loop-t.invariant (omega arith))

pub lower_links-requires : goal.lower_links-requires
lower_links-requires g c = follows-asks c.requires.0 c.loop-t.invariant (omega arith)

pub loop-t-preserved : goal.loop-t-preserved
loop-t-preserved g c = follows_next c.requires.0 c.loop-t.invariant (omega arith) c.lower_links.ensures

pub returns : goal.returns
returns g c = follows-all c.requires.0 c.loop-t.invariant (omega arith)

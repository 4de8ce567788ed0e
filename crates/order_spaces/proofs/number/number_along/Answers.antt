-- `number_along` meets its contract: a store at one node leaves the numbers of the others.
use native.Mathlib.Omega.{arith}
use Rattle.order_spaces.proofs.Counting.{counting-none, counting-asks, counting-in, counting-low, counting-next, counting-all}
use Rattle.order_spaces.proofs.number.number_along.Goals as goal

pub loop-t-init : goal.loop-t-init
loop-t-init c = counting-none c.requires

pub number_of-v-requires : goal.number_of-v-requires
number_of-v-requires c = (omega arith, counting-asks c.requires c.loop-t.invariant)

pub overflow_add-work : goal.overflow_add-work
overflow_add-work c = omega (arith, counting-in c.requires c.loop-t.invariant (omega arith))

pub offset_bounds-work-a-in-loop-t : goal.offset_bounds-work-a-in-loop-t
offset_bounds-work-a-in-loop-t c = omega (arith, counting-in c.requires c.loop-t.invariant (omega arith))

pub bounds-work-a-in-loop-t : goal.bounds-work-a-in-loop-t
bounds-work-a-in-loop-t c = omega (arith, counting-in c.requires c.loop-t.invariant (omega arith))

pub overflow_add-v : goal.overflow_add-v
overflow_add-v c = omega (arith, counting-low c.requires c.loop-t.invariant (omega arith) c.number_of-v.ensures)

pub loop-t-preserved : goal.loop-t-preserved
loop-t-preserved c = counting-next c.requires c.loop-t.invariant (omega arith) c.number_of-v.ensures (omega arith)

pub returns : goal.returns
returns c = counting-all c.requires c.loop-t.invariant (omega arith)

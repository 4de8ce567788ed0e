-- `set_places` meets its contract: the places left, set in the memory as it is now, are those that are promised.
use native.Mathlib.Omega.{arith}
use Rattle.order_fit.proofs.Summing.{summing-placing, size-light, summing-next, summing-all}
use Rattle.order_fit.proofs.set_places.Goals as goal

pub node_at-i-requires : goal.node_at-i-requires
node_at-i-requires c = (c.loop-t-test.true, summing-placing c.requires c.loop-t.invariant)

pub overflow_add-at : goal.overflow_add-at
overflow_add-at c = omega (arith, size-light c.requires c.loop-t.invariant c.node_at-i.ensures.0)

pub loop-t-preserved : goal.loop-t-preserved
loop-t-preserved c =
    let node = c.node_at-i.ensures in
    summing-next c.requires c.loop-t.invariant node.0 node.1 c.loop-t-test.true

pub returns : goal.returns
returns c = summing-all c.requires c.loop-t.invariant c.loop-t-test.false

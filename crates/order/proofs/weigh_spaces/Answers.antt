-- `weigh_spaces` meets its contract: a store at one node leaves the keys of the others, and no sum wraps.
use native.Mathlib.Omega.{arith}
use Rattle.order.proofs.Keys.{weighs-near, weighs-small, weighs-next, weighs-all}
use Rattle.order.proofs.weigh_spaces.Goals as goal

pub overflow_mul-work : goal.overflow_mul-work
overflow_mul-work c = omega (arith, weighs-small c.requires c.loop-i.invariant c.loop-i-test.true)

pub overflow_add-work-in-loop-i-2 : goal.overflow_add-work-in-loop-i-2
overflow_add-work-in-loop-i-2 c =
    let inv = c.loop-i.invariant in
    let h = c.loop-i-test.true in
    omega (arith, weighs-near c.requires inv h, weighs-small c.requires inv h)

pub loop-i-preserved : goal.loop-i-preserved
loop-i-preserved c = weighs-next c.requires c.loop-i.invariant c.loop-i-test.true

pub returns : goal.returns
returns c = weighs-all c.requires c.loop-i.invariant c.loop-i-test.false

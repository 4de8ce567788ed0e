-- `line_length` meets its contract: what is summed, with what is left to sum, is the sum that is promised.
use native.Mathlib.Omega.{arith}
use Rattle.order_survey.proofs.Nodes.{line_item}
use Rattle.order_survey.proofs.Sums.{sums-light, sums_next, sums-all}
use Rattle.order_survey.proofs.line_length.Goals as goal

pub offset_bounds-work-i : goal.offset_bounds-work-i
offset_bounds-work-i c = omega (arith, line_item c.requires _ _ (omega arith) c.loop-i-test.true)

pub bounds-work-i : goal.bounds-work-i
bounds-work-i c = omega (arith, line_item c.requires _ _ (omega arith) c.loop-i-test.true)

pub overflow_add-sum : goal.overflow_add-sum
overflow_add-sum c = omega (arith, sums-light c.requires c.loop-i.invariant _ (omega arith) c.loop-i-test.true)

pub loop-i-preserved : goal.loop-i-preserved
loop-i-preserved c = sums_next c.requires c.loop-i.invariant _ (omega arith) c.loop-i-test.true

pub returns : goal.returns
returns c = sums-all c.requires c.loop-i.invariant _ (omega arith) c.loop-i-test.false

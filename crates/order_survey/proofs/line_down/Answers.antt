-- `line_down` meets its contract: the nodes left, taken from the memory as it is now, give the line that is promised.
use native.Mathlib.Omega.{arith}
use Rattle.order_survey.proofs.Falls.{falls-none, falls-skip, falls-asks, falls-next, falls-all}
use Rattle.order_survey.proofs.line_down.Goals as goal

pub loop-i-init : goal.loop-i-init
loop-i-init c = falls-none c.requires

pub count_links-requires : goal.count_links-requires
count_links-requires c = falls-asks c.requires c.loop-i.invariant (omega arith)

pub loop-i-preserved-then-work-a-ne0 : goal.loop-i-preserved-then-work-a-ne0
loop-i-preserved-then-work-a-ne0 c = falls-next c.requires c.loop-i.invariant (omega arith) c.count_links.ensures c.if-work-a-ne0.true

pub loop-i-preserved : goal.loop-i-preserved
loop-i-preserved c = falls-skip c.requires c.loop-i.invariant (omega arith) c.if-work-a-ne0.false

pub returns : goal.returns
returns c = falls-all c.requires c.loop-i.invariant (omega arith)

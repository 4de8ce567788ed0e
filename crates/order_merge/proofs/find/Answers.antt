-- `find` meets its contract: every turn stores a boss of the same set, and goes on below it.
use Rattle.order_merge.proofs.Turns.{climbing-none, climbing-next, climbing-all}
use Rattle.order_merge.proofs.find.Goals as goal

pub loop-up-init : goal.loop-up-init
loop-up-init c = climbing-none _ _ c.requires.0 c.requires.1

pub loop-up-preserved : goal.loop-up-preserved
loop-up-preserved c = climbing-next c.loop-up.invariant c.loop-up-test.true

pub returns : goal.returns
returns c = climbing-all c.loop-up.invariant c.loop-up-test.false

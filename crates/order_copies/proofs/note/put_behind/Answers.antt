-- `put_behind` meets its contract: those from place i on have moved up by one, and x is in front of them.
use Rattle.order_copies.proofs.Inserting.{moving-none, moving-next, moving-all}
use Rattle.order_copies.proofs.note.put_behind.Goals as goal

pub loop-work-init : goal.loop-work-init
loop-work-init c = moving-none c.requires

pub loop-work-preserved : goal.loop-work-preserved
loop-work-preserved c = moving-next c.requires c.loop-work.invariant c.loop-work-test.true

pub returns : goal.returns
returns c = moving-all c.requires c.loop-work.invariant c.loop-work-test.false

-- `copy_nodes` meets its contract: the first i nodes' words stand, and no word behind the nodes has changed.
use Rattle.pack_copy.proofs.Copying.{node-read, nodes-next}
use Rattle.pack_copy.proofs.copy_nodes.Goals as goal

pub loop-i-preserved : goal.loop-i-preserved
loop-i-preserved c = nodes-next c.requires c.loop-i-test.true (node-read c.closed_span-o.ensures) c.loop-i.invariant

-- `node_at` meets its contract: the placed nodes are some of the n.
use Rattle.order_fit.proofs.Summing.{node-read}
use Rattle.order_fit.proofs.node_at.Goals as goal

pub returns : goal.returns
returns c = node-read c.requires.1 _ c.requires.0

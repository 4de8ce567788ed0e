-- `push` meets its contract: the word behind the heap is a hole at a leaf.
use Rattle.order_heap.proofs.Steps.{pushed}
use Rattle.order_heap.proofs.push.Goals as goal

pub returns : goal.returns
returns c = pushed _ _ _ _ c.requires.0 c.sift_up.ensures

-- `copy_nodes` meets its contract: the first i nodes' words stand, and no word behind the nodes has changed.
use Rattle.pack_copy.specs.Copy.{NodesCopied}
use Rattle.pack_copy.proofs.copy_nodes.Given as goal

abbrev pub invariant-loop-i : goal.invariant-loop-i
invariant-loop-i l = NodesCopied l.a l.i l.records l.initial.work l.work

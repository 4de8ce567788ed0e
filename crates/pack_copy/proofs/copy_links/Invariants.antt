-- `copy_links` meets its contract: the first i words of the links stand, and no other has changed.
use Rattle.pack_copy.specs.Copy.{LinksCopied}
use Rattle.pack_copy.proofs.copy_links.Given as goal

abbrev pub invariant-loop-i : goal.invariant-loop-i
invariant-loop-i l = LinksCopied l.a l.i l.records l.initial.work l.work

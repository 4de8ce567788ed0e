-- `resolve` meets its contract: a turn leaves what is to come out as it was.
use Rattle.order_resolve.proofs.Standing.{Turn}
use Rattle.order_resolve.proofs.resolve.Given as goal

abbrev pub invariant-loop-u : goal.invariant-loop-u
invariant-loop-u l =
    Turn l.a l.o.nodes l.o.links l.o.root l.o.copies l.nodes l.links l.length l.left l.initial.work l.work

abbrev pub decreases-loop-u : goal.decreases-loop-u
decreases-loop-u l = l.left

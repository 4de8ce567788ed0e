-- `find` meets its contract: every turn stores a boss of the same set, and goes on below it.
use Rattle.order_merge.proofs.Turns.{Climbing}
use Rattle.order_merge.proofs.find.Given as goal

abbrev pub invariant-loop-up : goal.invariant-loop-up
invariant-loop-up l = Climbing l.i l.j l.up l.initial.boss l.boss

abbrev pub decreases-loop-up : goal.decreases-loop-up
decreases-loop-up l = l.j

-- `put_behind` meets its contract: those from place i on have moved up by one, and x is in front of them.
use Rattle.order_copies.proofs.Inserting.{Moving}
use Rattle.order_copies.proofs.note.put_behind.Given as goal

abbrev pub invariant-loop-work : goal.invariant-loop-work
invariant-loop-work l = Moving l.a l.r l.x l.i l.initial.work l.work

abbrev pub decreases-loop-work : goal.decreases-loop-work
decreases-loop-work l = l.i

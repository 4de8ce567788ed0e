-- `release_all` meets its contract: the links left, taken off the memory as it is now, give the queue that is promised.
use Rattle.order_release.proofs.Unlinking.{Unlinking}
use Rattle.order_release.proofs.release_all.Given as goal

abbrev pub invariant-loop-t : goal.invariant-loop-t
invariant-loop-t l = Unlinking l.a l.at l.n l.i l.t l.m l.arrived l.initial.work l.work

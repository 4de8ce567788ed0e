-- `push_arrivals` meets its contract: one push after the other.
use Rattle.order_ready.proofs.Heaps.{PushesTo}
use Rattle.order_ready.proofs.push_arrivals.Given as goal

abbrev pub invariant-loop-j : goal.invariant-loop-j
invariant-loop-j l = PushesTo l.a l.from l.to l.k l.j l.initial.work l.work

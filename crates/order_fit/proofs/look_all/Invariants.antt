-- `look_all` meets its contract: the look through the nodes left gives the answer that is promised.
use Rattle.order_fit.proofs.Looking.{Seeking}
use Rattle.order_fit.proofs.look_all.Given as goal

abbrev pub invariant-loop-t : goal.invariant-loop-t
invariant-loop-t l = Seeking l.a l.n l.r l.t l.work

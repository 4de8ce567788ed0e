-- `look_links` meets its contract: the look through the links left gives the answer that is promised.
use Rattle.order_fit.proofs.Looking.{Looking}
use Rattle.order_fit.proofs.look_links.Given as goal

abbrev pub invariant-loop-t : goal.invariant-loop-t
invariant-loop-t l = Looking l.a l.n l.i l.t l.work

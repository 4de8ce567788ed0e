-- `clear_along` meets its contract: the nodes left, taken up in the memory as it is now, give what is promised.
use Rattle.order_spaces_near.proofs.Clearing.{Passing}
use Rattle.order_spaces_near.proofs.clear_along.Given as goal

abbrev pub invariant-loop-t : goal.invariant-loop-t
invariant-loop-t l = Passing l.a l.n l.r l.t l.initial.work l.work

-- `clear_links` meets its contract: the links left, taken up in the memory as it is now, give what is promised.
use Rattle.order_spaces_near.proofs.Clearing.{Clearing}
use Rattle.order_spaces_near.proofs.clear_links.Given as goal

abbrev pub invariant-loop-t : goal.invariant-loop-t
invariant-loop-t l = Clearing l.a l.n l.i l.t l.initial.work l.work

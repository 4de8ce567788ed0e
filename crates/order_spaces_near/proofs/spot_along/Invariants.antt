-- `spot_along` meets its contract: the nodes left, stored in the memory as it is now, give what is promised.
use Rattle.order_spaces_near.proofs.Spotting.{Spotting}
use Rattle.order_spaces_near.proofs.spot_along.Given as goal

abbrev pub invariant-loop-t : goal.invariant-loop-t
invariant-loop-t l = Spotting l.a l.r l.t l.initial.work l.work

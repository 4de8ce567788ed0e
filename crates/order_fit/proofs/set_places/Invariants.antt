-- `set_places` meets its contract: the places left, set in the memory as it is now, are those that are promised.
use Rattle.order_fit.proofs.Summing.{Summing}
use Rattle.order_fit.proofs.set_places.Given as goal

abbrev pub invariant-loop-t : goal.invariant-loop-t
invariant-loop-t l = Summing l.a l.n l.r l.t l.at l.initial.work l.work

-- `lower_along` meets its contract: the nodes left, taken from the memory as it is now, give the distances that are promised.
use Rattle.order_survey.proofs.Lowers.{Follows}
use Rattle.order_survey.proofs.lower_along.Given as goal

abbrev pub invariant-loop-t : goal.invariant-loop-t
invariant-loop-t g l = Follows l.a l.n l.r l.t l.initial.work l.work

-- `join_along` meets its contract: the nodes left, with the sets as they are now, give the sets that are promised.
use Rattle.order_spaces_join.proofs.Tying.{Along}
use Rattle.order_spaces_join.proofs.join_along.Given as goal

abbrev pub invariant-loop-t : goal.invariant-loop-t
invariant-loop-t l = Along l.a l.n l.r l.t l.initial.work l.work

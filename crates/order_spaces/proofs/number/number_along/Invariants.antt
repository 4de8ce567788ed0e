-- `number_along` meets its contract: a store at one node leaves the numbers of the others.
use Rattle.order_spaces.proofs.Counting.{Counting}
use Rattle.order_spaces.proofs.number.number_along.Given as goal

abbrev pub invariant-loop-t : goal.invariant-loop-t
invariant-loop-t l = Counting l.a l.r l.t l.next l.initial.work l.work

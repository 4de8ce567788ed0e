-- `weigh_spaces` meets its contract: a store at one node leaves the keys of the others, and no sum wraps.
use Rattle.order.proofs.Keys.{Weighs}
use Rattle.order.proofs.weigh_spaces.Given as goal

abbrev pub invariant-loop-i : goal.invariant-loop-i
invariant-loop-i l = Weighs l.a l.i l.initial.work l.work

-- `count_links` meets its contract: the fields left, counted from the memory as it is now, give what is promised.
use Rattle.order_survey.proofs.Counts.{Counts}
use Rattle.order_survey.proofs.count_links.Given as goal

abbrev pub invariant-loop-t : goal.invariant-loop-t
invariant-loop-t l = Counts l.a l.n l.i l.t l.initial.work l.work

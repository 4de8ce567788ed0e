-- `line_down` meets its contract: the nodes left, taken from the memory as it is now, give the line that is promised.
use Rattle.order_survey.proofs.Falls.{Falls}
use Rattle.order_survey.proofs.line_down.Given as goal

abbrev pub invariant-loop-i : goal.invariant-loop-i
invariant-loop-i l = Falls l.a l.n l.root l.i l.r l.initial.work l.work

-- `line_length` meets its contract: what is summed, with what is left to sum, is the sum that is promised.
use Rattle.order_survey.proofs.Sums.{Sums}
use Rattle.order_survey.proofs.line_length.Given as goal

abbrev pub invariant-loop-i : goal.invariant-loop-i
invariant-loop-i l = Sums l.fn.a l.n l.r l.i-index l.sum l.work

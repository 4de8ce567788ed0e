-- `lower_links` link by link meets its contract: the links left, taken up from the memory as it is now, give what is promised.
use Rattle.order_survey.proofs.Lowers.{Lowers}
use Rattle.order_survey.proofs.lower.LinkByLinkLower.lower_links.Given as goal

abbrev pub invariant-loop-t : goal.invariant-loop-t
invariant-loop-t l = Lowers l.a l.n l.i l.d l.t l.initial.work l.work

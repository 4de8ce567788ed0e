-- `lower_links` by runs meets its contract: the links left behind each run, taken up from the memory as it is now, give what is promised.
use Prim.Native.Nat.{◌-◌}
use Rattle.order_survey.proofs.Lowers.{Lowers}
use Rattle.order_survey.proofs.lower.ByRunsLower.lower_links.Given as goal

abbrev pub invariant-loop-t : goal.invariant-loop-t
invariant-loop-t l = Lowers l.a l.n l.i l.d l.t l.initial.work l.work

abbrev pub decreases-loop-t : goal.decreases-loop-t
decreases-loop-t l = l.count - l.t

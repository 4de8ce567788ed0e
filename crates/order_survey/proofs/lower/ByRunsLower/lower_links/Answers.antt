-- `lower_links` by runs meets its contract: the links left behind each run, taken up from the memory as it is now, give what is promised.
use native.Mathlib.Omega.{arith}
use Rattle.order_survey.proofs.Lowers.{lowers-none, lowers-light, lowers-next-run, lowers-all}
use Rattle.order_graph.proofs.Links.{from-kept}
use Rattle.order_survey.proofs.lower.ByRunsLower.lower_links.Goals as goal

pub loop-t-init : goal.loop-t-init
loop-t-init c = lowers-none c.requires

pub run_from-run-requires : goal.run_from-run-requires
run_from-run-requires c =
    let count = c.link_count-count.ensures in
    from-kept c.requires.node c.loop-t.invariant.kept (omega arith) (omega arith) c.links_at-from.ensures

pub overflow_add-weight : goal.overflow_add-weight
overflow_add-weight c = omega (arith, lowers-light c.requires c.loop-t.invariant c.run_from-run.ensures c.capacity.ensures)

pub overflow_add-d : goal.overflow_add-d
overflow_add-d c = omega (arith, lowers-light c.requires c.loop-t.invariant c.run_from-run.ensures c.capacity.ensures)

pub loop-t-preserved : goal.loop-t-preserved
loop-t-preserved c = lowers-next-run c.requires c.loop-t.invariant c.run_from-run.ensures c.capacity.ensures (omega arith)

pub returns : goal.returns
returns c =
    let count = c.link_count-count.ensures in
    lowers-all c.requires c.loop-t.invariant (omega arith)

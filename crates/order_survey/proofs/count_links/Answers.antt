-- `count_links` meets its contract: the fields left, counted from the memory as it is now, give what is promised.
use native.Mathlib.Omega.{arith}
use Rattle.order_survey.proofs.Counts.{counts-none, counts-room, counts-next, counts_all}
use Rattle.order_graph.proofs.Links.{from-kept}
use Rattle.order_survey.proofs.count_links.Goals as goal

pub loop-t-init : goal.loop-t-init
loop-t-init c = counts-none c.requires

pub field_from-f-requires : goal.field_from-f-requires
field_from-f-requires c =
    let count = c.link_count-count.ensures in
    from-kept c.requires.node c.loop-t.invariant.kept (omega arith) (omega arith) c.links_at-from.ensures

pub overflow_add-work-in-loop-t : goal.overflow_add-work-in-loop-t
overflow_add-work-in-loop-t c =
    let count = c.link_count-count.ensures in
    omega (arith, counts-room c.requires c.loop-t.invariant _ c.field_from-f.ensures.known (omega arith))

pub loop-t-preserved : goal.loop-t-preserved
loop-t-preserved c =
    let count = c.link_count-count.ensures in
    counts-next c.requires c.loop-t.invariant c.field_from-f.ensures (omega arith)

pub returns : goal.returns
returns c =
    let count = c.link_count-count.ensures in
    counts_all c.requires c.loop-t.invariant (omega arith)

-- `lower_links` link by link meets its contract: the links left, taken up from the memory as it is now, give what is promised.
use native.Mathlib.Omega.{arith}
use Rattle.order_survey.proofs.Lowers.{lowers-none, lowers-next, lowers-all}
use Rattle.order_graph.proofs.Links.{from-kept}
use Rattle.order_survey.proofs.lower.LinkByLinkLower.lower_links.Goals as goal

pub loop-t-init : goal.loop-t-init
loop-t-init c = lowers-none c.requires

pub edge_from-e-requires : goal.edge_from-e-requires
edge_from-e-requires c =
    let count = c.link_count-count.ensures in
    from-kept c.requires.node c.loop-t.invariant.kept (omega arith) (omega arith) c.links_at-from.ensures

pub loop-t-preserved : goal.loop-t-preserved
loop-t-preserved c =
    let count = c.link_count-count.ensures in
    lowers-next c.requires c.loop-t.invariant c.edge_from-e.ensures (omega arith) (omega arith)

pub returns : goal.returns
returns c =
    let count = c.link_count-count.ensures in
    lowers-all c.requires c.loop-t.invariant (omega arith)

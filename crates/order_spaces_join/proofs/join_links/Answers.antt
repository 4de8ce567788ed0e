-- `join_links` meets its contract: the links left, with the sets as they are now, give the sets that are promised.
use native.Mathlib.Omega.{arith}
use Rattle.order_spaces_join.proofs.Tying.{turning-link, turning-wide, turning-near, turning-asks, turning-join, turning-all}
use Rattle.order_spaces_join.proofs.join_links.Goals as goal

pub run_from-run-requires : goal.run_from-run-requires
run_from-run-requires c =
    let count = c.link_count-count.ensures in
    turning-link c.requires.0 c.requires.2 c.loop-t.invariant (omega arith) c.links_at-from.ensures

pub loop-t-preserved-then-run-eq-WIDEST : goal.loop-t-preserved-then-run-eq-WIDEST
loop-t-preserved-then-run-eq-WIDEST c =
    turning-wide c.requires.0 c.requires.2 c.loop-t.invariant c.run_from-run.ensures c.if-run-eq-WIDEST.true

pub loop-t-preserved-then-y-eq0 : goal.loop-t-preserved-then-y-eq0
loop-t-preserved-then-y-eq0 c = turning-near c.requires.0 c.requires.2 c.loop-t.invariant c.run_from-run.ensures c.if-y-eq0.true

pub join_at-requires : goal.join_at-requires
join_at-requires c = turning-asks c.requires.0 c.requires.2 c.loop-t.invariant c.run_from-run.ensures c.requires.1

pub loop-t-preserved : goal.loop-t-preserved
loop-t-preserved c =
    turning-join c.requires.0 c.requires.2 c.loop-t.invariant c.run_from-run.ensures c.if-run-eq-WIDEST.false c.if-y-eq0.false c.join_at.ensures

pub returns : goal.returns
returns c =
    let count = c.link_count-count.ensures in
    turning-all c.requires.0 c.requires.2 c.loop-t.invariant (omega arith)

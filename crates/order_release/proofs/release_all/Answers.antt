-- `release_all` meets its contract: the links left, taken off the memory as it is now, give the queue that is promised.
use native.Mathlib.Omega.{arith}
use Rattle.order_release.proofs.Unlinking.{unlinking-link, unlinking-next, unlinking-all}
use Rattle.order_release.proofs.release_all.Goals as goal

pub field_from-f-requires : goal.field_from-f-requires
field_from-f-requires c =
    let count = c.link_count-count.ensures in
    unlinking-link c.requires.1 c.requires.0 c.loop-t.invariant (omega arith) c.links_at-from.ensures

pub loop-t-preserved : goal.loop-t-preserved
loop-t-preserved c =
    let count = c.link_count-count.ensures in
    let release = c.release-arrived.ensures in
    unlinking-next c.requires.1 c.requires.0 c.loop-t.invariant (omega arith) c.field_from-f.ensures release.2 release.0 release.1

pub returns : goal.returns
returns c =
    let count = c.link_count-count.ensures in
    unlinking-all c.requires.1 c.requires.0 c.loop-t.invariant (omega arith)

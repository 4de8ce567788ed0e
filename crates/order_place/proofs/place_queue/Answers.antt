-- `place_queue` meets its contract: what stands in the order behind the placed ones is ready.
use Rattle.order_place.proofs.Queue.{queued-first, queued-known, queued-next, queued-last}
use Rattle.order_place.proofs.place_queue.Goals as goal

pub loop-q-init : goal.loop-q-init
loop-q-init c = queued-first c.requires

pub release_all-m-requires : goal.release_all-m-requires
release_all-m-requires c =
    (queued-known c.requires c.loop-q.invariant c.loop-q-test.true, c.loop-q.invariant.between.live)

pub loop-q-preserved : goal.loop-q-preserved
loop-q-preserved c =
    queued-next c.requires c.loop-q.invariant c.loop-q-test.true c.release_all-m.ensures

pub returns : goal.returns
returns c = queued-last c.requires c.loop-q.invariant c.loop-q-test.false

-- `place_heap` meets its contract: the ready nodes are in the heap, before and after every turn.
use Rattle.order_place.proofs.Heaping.{heaping-first, heap-placed, heap-pushing, heap-next, heap-last}
use Rattle.order_place.proofs.place_heap.Goals as goal

pub loop-q-init : goal.loop-q-init
loop-q-init c = heaping-first c.requires

pub release_all-more-requires : goal.release_all-more-requires
release_all-more-requires c =
    let took = c.take_least-i.ensures in
    (took.known, heap-placed c.requires c.loop-q.invariant c.loop-q-test.true took)

pub push_arrivals-requires : goal.push_arrivals-requires
push_arrivals-requires c =
    heap-pushing c.requires c.loop-q.invariant c.loop-q-test.true c.take_least-i.ensures c.release_all-more.ensures

pub loop-q-preserved : goal.loop-q-preserved
loop-q-preserved c =
    heap-next c.requires c.loop-q.invariant c.loop-q-test.true c.take_least-i.ensures c.release_all-more.ensures
    c.push_arrivals.ensures

pub returns : goal.returns
returns c = heap-last c.requires c.loop-q.invariant c.loop-q-test.false

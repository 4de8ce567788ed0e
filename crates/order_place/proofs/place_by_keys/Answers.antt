-- `place_by_keys` meets its contract: the root alone is in the heap, and all is placed from there.
use Rattle.order_place.proofs.Rooting.{root-pushing, root-heap, root-found}
use Rattle.order_place.proofs.place_by_keys.Goals as goal

pub push_arrivals-requires : goal.push_arrivals-requires
push_arrivals-requires c =
    let pre = c.requires in
    root-pushing pre.0 pre.1 c.begin.ensures

pub place_heap-requires : goal.place_heap-requires
place_heap-requires c =
    let pre = c.requires in
    root-heap pre.0 pre.1 c.begin.ensures c.push_arrivals.ensures

pub returns : goal.returns
returns c =
    let pre = c.requires in
    root-found pre.0 pre.1 c.begin.ensures c.push_arrivals.ensures c.place_heap.ensures

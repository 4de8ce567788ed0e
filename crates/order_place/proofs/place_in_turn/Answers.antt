-- `place_in_turn` meets its contract: the root alone is ready, and all is placed from there.
use Rattle.order_place.proofs.Starting.{begun-ready, found-kept, in_order}
use Rattle.order_place.proofs.place_in_turn.Goals as goal

pub place_queue-requires : goal.place_queue-requires
place_queue-requires c =
    let start = c.requires in
    begun-ready start (in_order start.graph.apart) c.begin.ensures

pub returns : goal.returns
returns c =
    let start = c.requires in
    found-kept start c.begin.ensures.kept c.place_queue.ensures

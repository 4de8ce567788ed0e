-- `arrange_later` meets its contract: the shortest-distance order, or what the order by spaces comes to.
use Rattle.order_arrange.proofs.Trying.{distance-fits, distance-spacing, spaces-asks, spaces-near, spaces-found, distance-later}
use Rattle.order_arrange.proofs.arrange_later.Goals as goal

pub returns-then-is_ok : goal.returns-then-is_ok
returns-then-is_ok c =
    let pre = c.requires in
    rw c.uncopied.ensures (distance-fits pre.0 pre.1 c.try_order-tried.ensures (rw c.is_ok.ensures.value at c.if-is_ok.true))

pub number_spaces-requires : goal.number_spaces-requires
number_spaces-requires c = let pre = c.requires in distance-spacing pre.0 pre.1 c.try_order-tried.ensures

pub resolve-requires : goal.resolve-requires
resolve-requires c =
    let pre = c.requires in
    let tried = c.try_order-tried.ensures in
    let found = c.number_spaces.ensures in
    (spaces-asks pre.0 pre.1 tried found, spaces-near pre.0 pre.1 tried found, spaces-found pre.0 pre.1 tried found)

pub returns : goal.returns
returns c =
    let pre = c.requires in
    distance-later pre.0 pre.1 c.try_order-tried.ensures c.number_spaces.ensures (rw c.is_ok.ensures.value at c.if-is_ok.false) c.resolve.ensures

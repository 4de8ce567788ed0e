-- `arrange` meets its contract: the kahn order, or what the later ones come to.
use Rattle.order_arrange.proofs.Trying.{kahn-fits, kahn-lines, later-asks, later-near, kahn-later}
use Rattle.order_arrange.proofs.arrange.Goals as goal

pub returns-then-is_ok : goal.returns-then-is_ok
returns-then-is_ok c = rw c.uncopied.ensures (kahn-fits c.requires c.try_order-tried.ensures (rw c.is_ok.ensures.value at c.if-is_ok.true))

pub find_distances-requires : goal.find_distances-requires
find_distances-requires c = kahn-lines c.requires c.try_order-tried.ensures

pub arrange_later-requires : goal.arrange_later-requires
arrange_later-requires c =
    let tried = c.try_order-tried.ensures in
    let found = c.find_distances.ensures in
    (later-asks c.requires tried found, later-near c.requires tried found)

pub returns : goal.returns
returns c =
    kahn-later c.requires c.try_order-tried.ensures c.find_distances.ensures (rw c.is_ok.ensures.value at c.if-is_ok.false) c.arrange_later.ensures

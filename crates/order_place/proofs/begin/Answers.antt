-- `begin` meets its contract: the counts copied, and the root stored.
use Rattle.order_place.proofs.Starting.{begun}
use Rattle.order_place.proofs.begin.Goals as goal

pub returns : goal.returns
returns c =
    let pre = c.requires in
    begun pre.0 pre.1 c.copy.ensures

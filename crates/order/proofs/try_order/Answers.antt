-- `try_order` meets its contract: the order, its places, the first link that does not fit.
use Rattle.order.proofs.Trying.{try-look, try-all}
use Rattle.order.proofs.try_order.Goals as goal

pub look_all-look-requires : goal.look_all-look-requires
look_all-look-requires c = try-look c.requires c.place-placed.ensures c.set_places.ensures

pub returns : goal.returns
returns c = try-all c.requires c.place-placed.ensures c.set_places.ensures c.look_all-look.ensures

-- `mark_near` meets its contract: the positions, and then space 0 along the order.
use Rattle.order_spaces_near.proofs.Clearing.{marked-asks, marked}
use Rattle.order_spaces_near.proofs.mark_near.Goals as goal

pub clear_along-requires : goal.clear_along-requires
clear_along-requires c = marked-asks c.requires c.set_spots.ensures

pub returns : goal.returns
returns c = marked c.requires c.set_spots.ensures c.clear_along.ensures

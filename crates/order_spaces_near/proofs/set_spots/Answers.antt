-- `set_spots` meets its contract: the positions, from words that are all 0.
use Rattle.order_spaces_near.proofs.Spotting.{spots-asks, spots-set}
use Rattle.order_spaces_near.proofs.set_spots.Goals as goal

pub spot_along-requires : goal.spot_along-requires
spot_along-requires c = spots-asks c.requires c.fill.ensures

pub returns : goal.returns
returns c = spots-set c.requires c.fill.ensures c.spot_along.ensures

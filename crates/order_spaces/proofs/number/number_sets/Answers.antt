-- `number_sets` meets its contract: the numbers, from words that are all 0.
use Rattle.order_spaces.proofs.Counting.{numbers-asks, numbers-set}
use Rattle.order_spaces.proofs.number.number_sets.Goals as goal

pub number_along-requires : goal.number_along-requires
number_along-requires c = numbers-asks c.requires c.fill.ensures

pub returns : goal.returns
returns c = numbers-set c.requires c.fill.ensures c.number_along.ensures

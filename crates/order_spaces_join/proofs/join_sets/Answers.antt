-- `join_sets` meets its contract: the first bosses, and from them on the sets.
use Rattle.order_spaces_join.proofs.Bossing.{sets-tying, sets-joined}
use Rattle.order_spaces_join.proofs.join_sets.Goals as goal

pub join_along-requires : goal.join_along-requires
join_along-requires c = sets-tying c.requires c.set_bosses.ensures

pub returns : goal.returns
returns c = sets-joined c.requires c.set_bosses.ensures c.join_along.ensures

-- `number_spaces` meets its contract: the steps one after the other are the model's definitions.
use Rattle.order_spaces.proofs.Finishing.{spacing-ordered, marked-joining, joined-bossed, spaced}
use Rattle.order_spaces.proofs.number_spaces.Goals as goal

pub mark_near-requires : goal.mark_near-requires
mark_near-requires c = spacing-ordered c.requires

pub join_sets-requires : goal.join_sets-requires
join_sets-requires c = marked-joining c.requires c.mark_near.ensures

pub number_sets-requires : goal.number_sets-requires
number_sets-requires c = joined-bossed c.requires c.mark_near.ensures c.join_sets.ensures

pub returns : goal.returns
returns c = spaced c.requires c.mark_near.ensures c.join_sets.ensures c.number_sets.ensures

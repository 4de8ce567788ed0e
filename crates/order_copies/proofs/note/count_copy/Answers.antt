-- `count_copy` meets its contract: two counts changed by one, and those of the copy's children.
use native.Mathlib.Omega.{arith}
use Rattle.order_copies.proofs.Counting.{counting-room, counting-asks, counting-all}
use Rattle.order_copies.proofs.note.count_copy.Goals as goal

pub overflow_add-work-3 : goal.overflow_add-work-3
overflow_add-work-3 c = omega (arith, counting-room c.requires)

pub count_links-requires : goal.count_links-requires
count_links-requires c = counting-asks c.requires

pub returns : goal.returns
returns c = counting-all c.requires c.count_links.ensures

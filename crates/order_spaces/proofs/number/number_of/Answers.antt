-- `number_of` meets its contract: a position's boss, the boss's node and its number are read.
use native.Mathlib.Omega.{arith}
use Rattle.order_spaces.proofs.Counting.{boss-node, number-old}
use Rattle.order_spaces.proofs.number.number_of.Goals as goal

pub overflow_add-result : goal.overflow_add-result
overflow_add-result c = omega (arith, boss-node c.requires.0 c.requires.1)

pub offset_bounds-work-a-3 : goal.offset_bounds-work-a-3
offset_bounds-work-a-3 c = omega (arith, boss-node c.requires.0 c.requires.1)

pub bounds-work-a-3 : goal.bounds-work-a-3
bounds-work-a-3 c = omega (arith, boss-node c.requires.0 c.requires.1)

pub returns : goal.returns
returns c = number-old c.requires.0 c.requires.1 _ c.if-b-t.false

-- `take_least` meets its contract: the least stamp is of the node that arrived under the number it holds.
use native.Mathlib.Omega.{arith}
use Rattle.order_ready.proofs.Lent.{lent-popped}
use Rattle.order_ready.proofs.Heaps.{took-inside, took-least}
use Rattle.order_ready.proofs.take_least.Goals as goal

pub bounds-work-at : goal.bounds-work-at
bounds-work-at c =
    let s = c.requires.1 in
    let p = lent-popped _ s.graph (omega arith) c.pop-stamp.ensures in
    omega (arith, took-inside s p)

pub returns : goal.returns
returns c =
    let s = c.requires.1 in
    let p = lent-popped _ s.graph (omega arith) c.pop-stamp.ensures in
    rw c.arrival_of.ensures.1 (took-least s p)

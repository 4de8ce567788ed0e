-- `pop` meets its contract: the root is the least, and the last number takes its place.
use native.Mathlib.Omega.{arith}
use Rattle.order_heap.proofs.Steps.{popped, popped-last}
use Rattle.order_heap.proofs.pop.Goals as goal

pub returns-then-n-eq0 : goal.returns-then-n-eq0
returns-then-n-eq0 c =
    let pre = c.requires in
    popped-last _ _ pre.1 pre.0 pre.2 c.if-n-eq0.true

pub returns : goal.returns
returns c =
    let pre = c.requires in
    popped _ _ pre.1 pre.0 _ pre.2 (omega arith) c.replace.ensures

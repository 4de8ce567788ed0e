-- `push_arrivals` meets its contract: one push after the other.
use native.Mathlib.Omega.{arith}
use Rattle.order_ready.proofs.Heaps.{pushes-asks, pushes-next}
use Rattle.order_ready.proofs.push_arrivals.Goals as goal

pub push_arrival-requires : goal.push_arrival-requires
push_arrival-requires c =
    let pre = c.requires in
    let inv = c.loop-j.invariant in
    pushes-asks pre inv (omega arith)

pub loop-j-preserved : goal.loop-j-preserved
loop-j-preserved c =
    let pre = c.requires in
    let inv = c.loop-j.invariant in
    pushes-next pre inv (omega arith) c.push_arrival.ensures

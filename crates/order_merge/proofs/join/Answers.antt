-- `join` meets its contract: both roots are found, and the higher gets the lower for its boss.
use native.Mathlib.Omega.{arith}
use Rattle.order_merge.proofs.Turns.{joined}
use Rattle.order_merge.proofs.join.Goals as goal

pub returns : goal.returns
returns c =
    let asked = c.requires in
    joined asked.0 asked.1 asked.2 c.find-x.ensures c.find-y.ensures _ _ (omega arith) (omega arith)

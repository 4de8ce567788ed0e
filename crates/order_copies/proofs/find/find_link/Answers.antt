-- `find_link` meets its contract: the field is that of a link from t on, and of none before it.
use native.Mathlib.Omega.{arith}
use Rattle.order_copies.proofs.Finding.{seeking-asks, seeking-found, seeking-next}
use Rattle.order_copies.proofs.find.find_link.Goals as goal

pub field_at-requires : goal.field_at-requires
field_at-requires c = seeking-asks c.requires c.loop-a.invariant

pub overflow_add-t : goal.overflow_add-t
overflow_add-t c =
    let asks = seeking-asks c.requires c.loop-a.invariant in
    omega (arith, asks.some, (asks.node.graph.tidy.node _ asks.node.inside).few)

pub loop-a-smaller : goal.loop-a-smaller
loop-a-smaller c =
    let asks = seeking-asks c.requires c.loop-a.invariant in
    omega (arith, asks.some)

pub loop-a-preserved : goal.loop-a-preserved
loop-a-preserved c = seeking-next c.requires c.loop-a.invariant c.field_at.ensures c.loop-a-test.true

pub returns : goal.returns
returns c = seeking-found c.requires c.loop-a.invariant c.field_at.ensures c.loop-a-test.false

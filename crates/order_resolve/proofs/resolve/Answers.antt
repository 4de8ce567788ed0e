-- `resolve` meets its contract: a turn leaves what is to come out as it was.
use native.Mathlib.Omega.{arith}
use Rattle.order_resolve.proofs.Standing.{turn-first}
use Rattle.order_resolve.proofs.Turned.{turn-tried, over-field, turn-fits, turn-fails}
use Rattle.order_resolve.proofs.Copying.{copy-asks, copy-light, copy-lines, turn-next}
use Rattle.order_resolve.proofs.resolve.Goals as goal

pub loop-u-init : goal.loop-u-init
loop-u-init c = let pre = c.requires in turn-first pre.0 pre.1 pre.2

pub returns-in_default : goal.returns-in_default
returns-in_default c =
    turn-fits c.loop-u.invariant c.try_order-placed.ensures c.in_default.is

pub can_copy-requires : goal.can_copy-requires
can_copy-requires c =
    over-field (turn-tried c.loop-u.invariant c.try_order-placed.ensures) c.in-Err.is

pub told-requires : goal.told-requires
told-requires c =
    let turned = turn-tried c.loop-u.invariant c.try_order-placed.ensures in
    ((over-field turned c.in-Err.is).node, turned.stands.owned)

pub returns-then-not-can_copy : goal.returns-then-not-can_copy
returns-then-not-can_copy c =
    turn-fails c.loop-u.invariant c.try_order-placed.ensures c.in-Err.is c.can_copy.ensures c.if-not-can_copy.true
    c.told.ensures

pub copy_child-c-requires : goal.copy_child-c-requires
copy_child-c-requires c =
    copy-asks (turn-tried c.loop-u.invariant c.try_order-placed.ensures) c.in-Err.is c.can_copy.ensures c.if-not-can_copy.false

pub overflow_add-length : goal.overflow_add-length
overflow_add-length c =
    let turned = turn-tried c.loop-u.invariant c.try_order-placed.ensures in
    let copied = c.copy_child-c.ensures in
    omega (arith, copied.graph.tidy, copy-light turned c.in-Err.is c.can_copy.ensures c.if-not-can_copy.false copied)

pub find_distances-requires : goal.find_distances-requires
find_distances-requires c =
    copy-lines (turn-tried c.loop-u.invariant c.try_order-placed.ensures) c.in-Err.is c.can_copy.ensures c.if-not-can_copy.false
    c.copy_child-c.ensures

pub loop-u-preserved : goal.loop-u-preserved
loop-u-preserved c =
    turn-next c.loop-u.invariant c.try_order-placed.ensures c.in-Err.is c.can_copy.ensures c.if-not-can_copy.false
    c.copy_child-c.ensures c.find_distances.ensures

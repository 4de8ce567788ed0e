-- `write_table` meets its contract: the objects left, written over the output as it is from the next place on, give what is promised.
use native.Mathlib.Omega.{arith}
use lib.ListN.{length-take, length-drop}
use Rattle.pack_write.proofs.Objects.{objects-none, objects-all, object-node, place-low, span-asked, wide-asked, object-fields, object-room, objects-next}
use Rattle.pack_write.proofs.write_table.Goals as goal

pub loop-t-init : goal.loop-t-init
loop-t-init c = objects-none _ _ _ _ _

pub closed_span-o-requires : goal.closed_span-o-requires
closed_span-o-requires c =
    let pre = c.requires.0 in
    span-asked pre c.loop-t-test.true c.node_at-i.ensures c.origin_of-id.ensures

pub overflow_sub-r : goal.overflow_sub-r
overflow_sub-r c =
    omega (arith, place-low c.requires.0 c.loop-t-test.true c.node_at-i.ensures c.loop-t.invariant)

pub wide_end-to-requires : goal.wide_end-to-requires
wide_end-to-requires c =
    let pre = c.requires.0 in
    wide-asked pre c.loop-t-test.true c.node_at-i.ensures c.origin_of-id.ensures c.closed_span-o.ensures c.loop-t.invariant

pub slice_bounds-write_object-count : goal.slice_bounds-write_object-count
slice_bounds-write_object-count c =
    let pre = c.requires in
    let low = place-low pre.0 c.loop-t-test.true c.node_at-i.ensures c.loop-t.invariant in
    omega (arith, low, pre.1, c.loop-t.invariant.long)

pub slice_bounds-write_object-start : goal.slice_bounds-write_object-start
slice_bounds-write_object-start c =
    let pre = c.requires in
    let low = place-low pre.0 c.loop-t-test.true c.node_at-i.ensures c.loop-t.invariant in
    omega (arith, low, pre.1, c.loop-t.invariant.long)

pub write_object-requires : goal.write_object-requires
write_object-requires c =
    let wide = c.wide_end-to.ensures in
    let pre = c.requires in
    let node = c.node_at-i.ensures in
    let id = c.origin_of-id.ensures in
    let span = c.closed_span-o.ensures in
    let room = object-room pre.0 c.loop-t-test.true node id span wide.0 wide.1 c.loop-t.invariant pre.1 wide.2 in
    (object-node pre.0 c.loop-t-test.true node, simp (length-take, length-drop) (omega arith), object-fields pre.0 c.loop-t-test.true node id span wide.0 wide.1)

pub loop-t-preserved : goal.loop-t-preserved
loop-t-preserved c =
    let wide = c.wide_end-to.ensures in
    let pre = c.requires in
    let node = c.node_at-i.ensures in
    let id = c.origin_of-id.ensures in
    let span = c.closed_span-o.ensures in
    objects-next pre.0 c.loop-t-test.true node id span wide.0 wide.1 c.loop-t.invariant pre.1 wide.2 c.write_object.ensures

pub returns : goal.returns
returns c = objects-all c.requires.0 c.loop-t.invariant c.loop-t-test.false

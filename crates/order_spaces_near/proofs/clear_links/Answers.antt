-- `clear_links` meets its contract: the links left, taken up in the memory as it is now, give what is promised.
use native.Mathlib.Omega.{arith}
use Rattle.order_spaces_near.proofs.Clearing.{clearing-narrow, clearing-wide, clearing-all}
use Rattle.order_spaces_near.proofs.clear_links.Goals.{then-f-eq-WIDEST, else-f-eq-WIDEST}
use Rattle.order_spaces_near.proofs.clear_links.Goals as goal

pub loop-t-preserved : goal.loop-t-preserved
loop-t-preserved c =
    let count = c.link_count-count.ensures in
    let inv = c.loop-t.invariant in
    elim c.if-f-eq-WIDEST.branch [
      | then-f-eq-WIDEST w ↦ rw w.x-is (clearing-wide c.requires.0 inv c.field_from-f.ensures (omega arith) w.if-f-eq-WIDEST.true)
      | else-f-eq-WIDEST w ↦ rw w.x-is (clearing-narrow c.requires.0 inv c.field_from-f.ensures (omega arith) w.if-f-eq-WIDEST.false)
    ]

pub returns : goal.returns
returns c =
    let count = c.link_count-count.ensures in
    clearing-all c.requires.0 c.loop-t.invariant (omega arith)

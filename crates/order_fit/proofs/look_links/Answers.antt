-- `look_links` meets its contract: the look through the links left gives the answer that is promised.
use mathlib.Core.Path.{sym}
use native.Mathlib.Omega.{arith}
use Rattle.order_fit.proofs.Looking.{looking-next, looking-stop, looking-all}
use Rattle.order_fit.proofs.look_links.Goals as goal

pub returns-then-capacity-needed : goal.returns-then-capacity-needed
returns-then-capacity-needed c =
    let field = c.field_at-f.ensures in
    rw c.object_of.ensures
    (sym (looking-stop c.requires c.loop-t.invariant (omega arith) field c.offset_at-needed.ensures c.capacity.ensures c.if-capacity-needed.true))

pub loop-t-preserved : goal.loop-t-preserved
loop-t-preserved c =
    looking-next c.requires c.loop-t.invariant (omega arith) c.field_at-f.ensures c.offset_at-needed.ensures c.capacity.ensures c.if-capacity-needed.false

pub returns : goal.returns
returns c = sym (looking-all c.requires c.loop-t.invariant (omega arith))

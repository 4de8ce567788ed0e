-- All in t, or joined.
use Rattle.cable_head.proofs.Heads.{direct}
use lib.ListN.{length-take}
use native.Mathlib.Omega.{arith}
use mathlib.Core.Path.{sym, ◌∙◌}
use Rattle.cable_head.proofs.feeding.answer_to.Goals as goal

pub slice_bounds-settle-end : goal.slice_bounds-settle-end
slice_bounds-settle-end c = omega (arith, c.min-most.ensures, length-take c.min-most.result c.args.t.now)

pub returns-then-len_of-eq0 : goal.returns-then-len_of-eq0
returns-then-len_of-eq0 c =
    let e = direct c.args.head.now c.args.t.now c.requires _ (sym c.len_of.ensures ∙ c.if-len_of-eq0.true) c.min-most.ensures in
    (c.settle.ensures.0 ∙ rw (c.awaiting_of-awaiting.ensures, e), c.settle.ensures.1 ∙ rw (c.awaiting_of-awaiting.ensures, e))

pub returns : goal.returns
returns c = (c.answer_joined.ensures.0 ∙ rw (c.awaiting_of-awaiting.ensures), c.answer_joined.ensures.1 ∙ rw (c.awaiting_of-awaiting.ensures))

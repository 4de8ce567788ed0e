-- Text held, and then the numbers.
use Rattle.cable_head.proofs.Heads.{hold-done}
use mathlib.Core.Path.{◌∙◌}
use Rattle.cable_head.proofs.holding.hold.Goals as goal

pub returns : goal.returns
returns c = hold-done c.args.head.now c.args.t.now c.requires c.args.line _ _ _ c.keep-end.ensures.0 c.keep-end.ensures.1 (c.put_numbers.ensures ∙ rw (c.awaiting_of-awaiting.ensures))

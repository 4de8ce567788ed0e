-- It clears from the first word on.
use Rattle.std.proofs.Common.{zero-le, ◌∙◌}
use native.Mathlib.Nat.{sub-zero}
use Rattle.memory.proofs.Writes.{cleared-over}
use Rattle.work.proofs.clear.Goals as goal

pub returns : goal.returns
returns c = rw sub-zero at (c.clear.ensures ∙ cleared-over 0 c.args.work.now c.args.a.end zero-le)

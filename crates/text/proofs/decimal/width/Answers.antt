-- One digit more than the logarithm.
use native.Mathlib.Omega.{arith}
use Rattle.text.proofs.DecimalTurns.{width-log}
use Rattle.text.proofs.decimal.width.Goals as goal

pub returns : goal.returns
returns c =
    let d = c.ilog10.ensures in
    width-log c.args.n c.ilog10.result d.bound (omega arith) (omega arith)

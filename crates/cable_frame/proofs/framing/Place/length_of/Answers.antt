-- Two widths of at most ten fit.
use native.Mathlib.Omega.{arith}
use Rattle.text.proofs.Decimals.{width-ten}
use Rattle.cable_frame.proofs.framing.Place.length_of.Goals as goal

pub overflow_add-result : goal.overflow_add-result
overflow_add-result c = omega (arith, width-ten c.args.self.number, width-ten c.args.self.count)

pub overflow_add-result-2 : goal.overflow_add-result-2
overflow_add-result-2 c = omega (arith, width-ten c.args.self.number, width-ten c.args.self.count)

pub overflow_add-result-3 : goal.overflow_add-result-3
overflow_add-result-3 c = omega (arith, width-ten c.args.self.number, width-ten c.args.self.count)

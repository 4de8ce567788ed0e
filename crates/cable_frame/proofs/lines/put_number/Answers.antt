-- Key, number and line feed, one behind the other.
use native.Mathlib.Omega.{arith}
use lib.ListN.{length-set}
use Rattle.cable_frame.proofs.LinesPut.{line-done}
use Rattle.text.specs.Decimal.{width, decimal}
use Rattle.text.proofs.Written.{length_digits}
use Rattle.cable_frame.proofs.lines.put_number.Goals as goal

pub shape_of-out : goal.shape_of-out
shape_of-out c = simp length-set (omega arith)

pub returns : goal.returns
returns c =
    let a = c.args in
    let p = c.put_decimal-w in
    let w = length_digits 10 (width a.n) a.n in (
      omega (arith, p.ensures.0),
      line-done a.at a.key.now (decimal a.n) a.out.now _ _ _ c.copy.ensures p.ensures.1 (omega (arith, p.ensures.0, w)) (omega (arith, w)),
    )

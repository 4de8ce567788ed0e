-- Key, digits and line feed, one behind the other.
use native.Mathlib.Omega.{arith}
use lib.ListN.{length-set}
use Rattle.cable_frame.proofs.LinesPut.{line-done}
use Rattle.cable_frame.specs.Frame.{check_key}
use Rattle.text_hex.specs.Hex.{hex_word}
use Rattle.text.proofs.Written.{length_digits}
use Rattle.cable_frame.proofs.lines.put_check.Goals as goal

pub shape_of-out : goal.shape_of-out
shape_of-out c = simp length-set (omega arith)

pub returns : goal.returns
returns c =
    let a = c.args in
    let w = length_digits 16 8 a.n in (
      omega arith,
      line-done a.at check_key (hex_word a.n) a.out.now _ _ _ c.copy.ensures c.put_digits.ensures (omega (arith, w)) (omega (arith, w)),
    )

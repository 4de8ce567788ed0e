-- Key, pairs and line feed, one behind the other.
use native.Mathlib.Omega.{arith}
use lib.ListN.{length-set}
use Rattle.cable_frame.proofs.LinesPut.{line-done}
use Rattle.cable_frame.specs.Frame.{data_key}
use Rattle.text_hex.specs.Hex.{hex_pairs}
use Rattle.text_hex.proofs.Pairs.{length_pairs}
use Rattle.cable_frame.proofs.lines.put_body.Goals as goal

pub shape_of-out : goal.shape_of-out
shape_of-out c = simp length-set (omega arith)

pub returns : goal.returns
returns c =
    let a = c.args in
    let w = length_pairs a.body.now in (
      omega arith,
      line-done a.at data_key (hex_pairs a.body.now) a.out.now _ _ _ c.copy.ensures c.put_pairs.ensures (omega (arith, w)) (omega (arith, w)),
    )

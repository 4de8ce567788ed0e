-- Two lines and a key, one behind the other, at the front of the array.
use Rattle.cable_compare.proofs.Texts.{front-done}
use Rattle.text.proofs.Decimals.{width-ten}
use lib.ListN.{length-take}
use native.Mathlib.Omega.{arith}
use Prim.Native.Nat.{◌+◌}
use mathlib.Core.Path.{◌∙◌}
use Rattle.cable_compare.proofs.is_front.Goals as goal

pub put_number-a-requires : goal.put_number-a-requires
put_number-a-requires c = omega (arith, width-ten c.args.place.number)

pub put_number-b-requires : goal.put_number-b-requires
put_number-b-requires c = omega (arith, width-ten c.args.place.number, width-ten c.args.place.count, c.put_number-a.ensures.0)

pub copy-requires : goal.copy-requires
copy-requires c = omega (arith, width-ten c.args.place.number, width-ten c.args.place.count, c.put_number-a.ensures.0, c.put_number-b.ensures.0)

pub overflow_add-end : goal.overflow_add-end
overflow_add-end c = omega (arith, width-ten c.args.place.number, width-ten c.args.place.count, c.put_number-a.ensures.0, c.put_number-b.ensures.0)

pub slice_bounds-again-end : goal.slice_bounds-again-end
slice_bounds-again-end c = omega (arith, width-ten c.args.place.number, width-ten c.args.place.count, c.put_number-a.ensures.0, c.put_number-b.ensures.0)

pub slice_bounds-equal-end : goal.slice_bounds-equal-end
slice_bounds-equal-end c =
    omega (arith, length-take (c.put_number-b.result + 5) c.copy.new.s, width-ten c.args.place.number, width-ten c.args.place.count, c.put_number-a.ensures.0, c.put_number-b.ensures.0)

pub returns : goal.returns
returns c =
    let a = c.args in
    let p = c.put_number-a.ensures in
    let q = c.put_number-b.ensures in
    c.equal.ensures ∙ rw (front-done a.place.number a.place.count _ _ _ _ _ _ (omega (arith, width-ten a.place.number, width-ten a.place.count)) p.0 p.1 q.0 q.1 c.copy.ensures)

-- What is held and then t, at the front of the array.
use Prim.Native.Nat.{◌+◌}
use borrow.Author.Rules.{rules}
use mathlib.Core.Path.{◌∙◌}
use Rattle.cable_head.proofs.Heads.{join-done}
use lib.ListN.{length-take}
use native.Mathlib.Omega.{arith}
use Rattle.cable_head.proofs.feeding.answer_joined.Goals as goal

pub slice_bounds-copy-end-4 : goal.slice_bounds-copy-end-4
slice_bounds-copy-end-4 c = omega (arith, c.min-more.ensures, length-take c.min-more.result c.args.t.now)

pub copy-requires-2 : goal.copy-requires-2
copy-requires-2 c = omega (arith, c.len_of-len.ensures, c.min-more.ensures, length-take c.min-more.result c.args.t.now)

pub slice_bounds-settle-end : goal.slice_bounds-settle-end
slice_bounds-settle-end c = omega (arith, length-take (c.len_of-len.result + c.min-more.result) c.copy-2.new.s)

pub returns : goal.returns
returns c =
    let a = c.args in
    let e = join-done a.head.now a.t.now c.requires _ _ c.len_of-len.ensures c.min-more.ensures _ _ _ (search rules) c.copy.ensures c.copy-2.ensures in
    (c.settle.ensures.0 ∙ rw e, c.settle.ensures.1 ∙ rw e)

-- As much as there is room for.
use Rattle.cable_head.proofs.Heads.{kept-length, keep-done}
use lib.ListN.{length-take}
use native.Mathlib.Omega.{arith}
use Rattle.cable_head.proofs.holding.keep.Goals as goal

pub slice_bounds-copy-end : goal.slice_bounds-copy-end
slice_bounds-copy-end c = omega (arith, c.min-more.ensures, length-take c.min-more.result c.args.t.now)

pub copy-requires : goal.copy-requires
copy-requires c = omega (arith, c.len_of-len.ensures, c.min-more.ensures, length-take c.min-more.result c.args.t.now)

pub returns : goal.returns
returns c =
    let a = c.args in
    let l = c.len_of-len.ensures in
    let k = c.min-more.ensures in
    (kept-length a.head.now a.t.now c.requires _ _ l k, keep-done a.head.now a.t.now c.requires _ _ l k _ c.copy.ensures)

-- `read` meets its contract: the bytes left, read on from what was read so far, give the number; i bytes read are below the capacity of width i.
use mathlib.Core.Path.{sym, ◌∙◌}
use native.Mathlib.Omega.{arith}
use lib.ListN.{drop_of_length-le}
use Rattle.std.proofs.lemmas.List.{at_drop_more}
use Rattle.big_endian.specs.BigEndian.{read_from}
use Rattle.big_endian.proofs.Laws.{capacity-next, capacity-rises}
use Rattle.big_endian.proofs.read.Goals as goal

pub overflow_mul-n : goal.overflow_mul-n
overflow_mul-n c = omega (arith, capacity-rises c.loop-byte.byte-index 7 (omega arith))

pub overflow_add-n : goal.overflow_add-n
overflow_add-n c = omega (arith, capacity-rises c.loop-byte.byte-index 7 (omega arith))

pub loop-byte-preserved : goal.loop-byte-preserved
unfolding read_from
loop-byte-preserved c =
    let l = c.loop-byte in
    rw c.from.ensures (omega (arith, capacity-next l.byte-index), l.invariant.1 ∙ at_drop_more (read_from l.n) _ l.byte-index 0 (omega arith))

pub returns : goal.returns
unfolding read_from
returns c =
    let l = c.loop-byte in
    sym (l.invariant.1 ∙ rw (drop_of_length-le _ {i = l.byte-index} c.loop-byte-test.false))

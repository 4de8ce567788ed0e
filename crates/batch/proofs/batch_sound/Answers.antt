-- Too little work memory, or the calls run.
use native.Mathlib.Omega.{arith}
use Rattle.std.proofs.Common.{zero-le}
use Rattle.memory.proofs.Writes.{cleared-over}
use mathlib.Core.Path.{sym, ◌∙◌}
use lib.Seq.{length-take-le}
use Rattle.batch.proofs.Steps.{batch-short, batch_run}
use Rattle.batch.proofs.batch_sound.Goals as goal

pub returns-then-work-n : goal.returns-then-work-n
returns-then-work-n c = batch-short _ _ _ _ c.read-s.ensures c.need-n.ensures c.refused.ensures c.if-work-n.true

pub slice_bounds-run_indexed-end-2 : goal.slice_bounds-run_indexed-end-2
slice_bounds-run_indexed-end-2 c = sym (length-take-le _ _ c.if-work-n.false)

pub run_indexed-r-requires : goal.run_indexed-r-requires
run_indexed-r-requires c =
    let read = c.read-s in
    (read.ensures, omega (arith, length-take-le _ c.args.work.now c.if-work-n.false, c.need-n.ensures))

pub returns : goal.returns
returns c =
    batch_run _ _ _ _ c.read-s.ensures c.need-n.ensures c.if-work-n.false c.run_indexed-r.ensures
    (c.run_indexed-r.auto.index ∙ length-take-le _ _ c.if-work-n.false) c.tally_sound.ensures
    (c.clear.ensures ∙ cleared-over 0 _ c.need-n.result zero-le)

-- What is left to mix by fours, and behind them byte by byte.
use Rattle.std.proofs.Common.{sym, refl, ◌∙◌}
use Rattle.session_hash.proofs.Hashes.{fours-next, fours-none}
use Rattle.session_hash.proofs.mix_fours.Goals as goal

pub loop-w-preserved : goal.loop-w-preserved
loop-w-preserved c =
    let l = c.loop-w in
    let cut = c.in-Some.ensures.cases in
    (c.mix-h.ensures.1, l.invariant.1 ∙ fours-next l.h c.in-Some.w.now l.left.now c.in-Some.rest.now cut.0 cut.1 cut.2 ∙ rw (c.mix-h.ensures.0, c.four.ensures.0) refl)

pub returns : goal.returns
returns c =
    let l = c.loop-w in
    (c.mix_rest.ensures.0 ∙ sym (l.invariant.1 ∙ fours-none l.h l.left.now c.in_default.ensures.cases), c.mix_rest.ensures.1)

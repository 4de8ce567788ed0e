-- What is left to mix, two words at a time, and behind them by fours.
use Rattle.std.proofs.Common.{sym, refl, ◌∙◌}
use Rattle.session_hash.proofs.Hashes.{twined-next, twined-none}
use Rattle.session_hash.proofs.mix_bytes.Goals as goal

pub loop-w-preserved : goal.loop-w-preserved
loop-w-preserved c =
    let l = c.loop-w in
    let cut = c.in-Some.ensures.cases in
    let next = twined-next l.h l.g l.left.now c.in-Some.w.now c.in-Some.rest.now cut.0 cut.1 cut.2 in
    (c.mix-h.ensures.1, c.mix-g.ensures.1, l.invariant.2 ∙ next ∙ rw (c.mix-h.ensures.0, c.four.ensures.0, c.mix-g.ensures.0, c.four-in-Some.ensures.0) refl)

pub returns : goal.returns
returns c =
    let l = c.loop-w in
    (c.mix_fours.ensures.0 ∙ rw c.mix.ensures.0 (sym (l.invariant.2 ∙ twined-none l.h l.g l.left.now c.in_default.ensures.cases)), c.mix_fours.ensures.1)

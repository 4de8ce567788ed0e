-- What is left to mix.
use Rattle.std.proofs.Common.{arith, refl, sym, ◌∙◌}
use Rattle.session_hash.proofs.Hashes.{mixed-next, mixed-none}
use Rattle.session_hash.proofs.mix_rest.Goals as goal

pub loop-x-preserved : goal.loop-x-preserved
loop-x-preserved c =
    let l = c.loop-x in
    (c.mix-h.ensures.1, l.invariant.1 ∙ mixed-next l.h l.x-index _ (omega arith) ∙ rw (c.mix-h.ensures.0, c.from.ensures) refl)

pub returns : goal.returns
returns c =
    let l = c.loop-x in
    (sym (l.invariant.1 ∙ mixed-none l.h l.x-index _ (omega arith)), l.invariant.0)

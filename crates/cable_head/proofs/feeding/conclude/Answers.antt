-- The verdict, and the head at the next stretch.
use Rattle.cable_judge.specs.declared.settling.Settled.{Settled}
use mathlib.Core.Path.{ap, ◌∙◌}
use Rattle.cable_head.proofs.feeding.conclude.Goals as goal

pub returns : goal.returns
returns c = record { answer = ap (λ (v : Settled). v.answer) c.answer_to-v.ensures.0; head = c.begin.ensures ∙ rw c.answer_to-v.ensures.0; out = c.answer_to-v.ensures.1 }

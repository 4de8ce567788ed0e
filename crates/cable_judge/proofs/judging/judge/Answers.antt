-- A number that no frame has.
use Rattle.cable_judge.proofs.Verdicts.{judge-high}
use Rattle.cable_judge.proofs.judging.judge.Goals as goal

pub returns-then-awaiting : goal.returns-then-awaiting
returns-then-awaiting c = judge-high _ _ _ _ c.if-awaiting.true

-- `step` meets its contract.
use mathlib.Core.Path.{◌∙◌}
use Rattle.memory_copy.proofs.Steps.{step-lent}
use Rattle.memory_copy.proofs.step.Goals as goal

pub returns : goal.returns
returns g c =
    let f = c.args in
    let read = c.copy_from_slice.ensures.after in
    step-lent g.row.N f.at f.i f.src.now f.s.now c.copy_from_slice-2.new.self c.requires.1 (c.copy_from_slice-2.ensures.after ∙ read)

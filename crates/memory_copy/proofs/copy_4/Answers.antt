-- `copy_4` meets its contract.
use Rattle.memory_copy.proofs.Steps.{step-first, step-last}
use Prim.Native.Nat.{◌-◌}
use lib.ListN.{length}
use borrow.Author.Rules.{rules}
use Rattle.memory_copy.proofs.copy_4.Goals as goal

pub returns : goal.returns
returns c =
    let f = c.args in
    let first = step-first f.at f.src.now f.s.now (search rules) 4 c.step.ensures in
    step-last f.at f.src.now f.s.now (search rules) 4 (length f.src.now - 4) 4 (search rules) (search rules) (search rules) first c.step-2.ensures

-- What is copied at once is all of `src`: a step of as many bytes as it has. One by one, the bytes that are left, written over the slice as it is, give what
-- the contract says.
use mathlib.Core.Path.{refl, sym, ap, ◌∙◌}
use native.Mathlib.Nat.{add-zero}
use native.Mathlib.Omega.{arith}
use lib.Seq.{take_all}
use borrow.Author.Rules.{rules}
use Rattle.lists.specs.Lists.{over}
use Rattle.memory_copy.proofs.Steps.{step-first, copy-next, copy-all}
use Rattle.memory_copy.proofs.copy.Goals as goal

pub returns-in-48 : goal.returns-in-48
returns-in-48 c =
    let f = c.args in
    step-first f.at f.src.now f.s.now c.requires 48 c.step.ensures ∙ ap (λ m. over f.at m f.s.now) (take_all 48 f.src.now (omega arith))

pub loop-i-init : goal.loop-i-init
loop-i-init c = (search rules, refl, rw add-zero)

pub loop-i-preserved : goal.loop-i-preserved
loop-i-preserved c = (search rules, search rules, copy-next _ _ _ _ (search rules) (search rules) ∙ c.loop-i.invariant.2)

pub returns-after-loop-i : goal.returns-after-loop-i
returns-after-loop-i c = sym (copy-all _ _ _ _ (search rules)) ∙ c.loop-i.invariant.2

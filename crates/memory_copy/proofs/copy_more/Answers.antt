-- What is written so far is the front of all, and the last step writes the end.
use mathlib.Core.Path.{refl, sym, ◌∙◌}
use Prim.Native.Nat.{◌+◌, ◌-◌}
use native.Mathlib.Omega.{arith}
use lib.ListN.{length}
use Rattle.lists.proofs.Runs.{over_none}
use Rattle.memory_copy.proofs.Steps.{step-on, step-last}
use borrow.Author.Rules.{rules}
use Rattle.memory_copy.proofs.copy_more.Goals as goal
use Rattle.memory_copy.proofs.copy_more.Goals.{else-loop-i-test, then-loop-i-test+else-i-step-last}

pub loop-i-init : goal.loop-i-init
loop-i-init g c = (search rules, refl, sym (over_none _ _))

pub loop-i-preserved : goal.loop-i-preserved
loop-i-preserved g c =
    let f = c.args in
    let l = c.loop-i in
    (search rules, search rules, step-on f.at f.src.now f.s.now (search rules) l.i l.i g.row.N (search rules) (search rules) (search rules) l.invariant.2 c.step.ensures)

pub returns : goal.returns
returns g c =
    let f = c.args in
    let l = c.loop-i in
    let last = length f.src.now - g.row.N in
    let room = c.requires.0 in
    elim c.loop-i-test.branch [
      | else-loop-i-test w ↦ step-last f.at f.src.now f.s.now room l.i last g.row.N (omega arith) (omega arith) (omega arith) (w.s-is ∙ l.invariant.2) c.step-2.ensures
      | then-loop-i-test+else-i-step-last w ↦
          let y = step-on f.at f.src.now f.s.now room l.i l.i g.row.N (omega arith) (omega arith) (omega arith) l.invariant.2 w.step.ensures in
          step-last f.at f.src.now f.s.now room (l.i + g.row.N) last g.row.N (omega arith) (omega arith) (omega arith) (w.s-is ∙ y) c.step-2.ensures
    ]

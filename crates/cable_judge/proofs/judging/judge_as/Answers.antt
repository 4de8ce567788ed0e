-- Right in count and size, and then the same text.
use Rattle.std.proofs.Common.{rules, sym, ◌∙◌}
use Rattle.cable_judge.proofs.Verdicts.{weighs, judge-untold, judged}
use Rattle.cable_judge.proofs.judging.judge_as.Goals as goal

pub returns-in_err-told : goal.returns-in_err-told
returns-in_err-told c = rw c.from_residual.ensures (judge-untold _ _ _ _ (sym c.in_err-told.was ∙ c.weigh.ensures))

pub is_text-requires : goal.is_text-requires
is_text-requires c =
    let a = c.args in
    let f = (weighs a.number a.count a.s.now c.in_ok-told.told (sym c.in_ok-told.was ∙ c.weigh.ensures)).facts in
    (f.inside, f.size, search rules)

pub returns : goal.returns
returns c =
    let a = c.args in
    let w = weighs a.number a.count a.s.now c.in_ok-told.told (sym c.in_ok-told.was ∙ c.weigh.ensures) in
    rw c.then_some.ensures (judged a.number a.count a.s.now c.in_ok-told.told w _ _ c.is_text.ensures)

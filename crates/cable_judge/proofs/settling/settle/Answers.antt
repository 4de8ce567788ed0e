-- Each way through settling is a law.
use Rattle.std.proofs.Common.{rules, sym, ap, ◌∙◌, arith}
use Rattle.std.proofs.Math.ListN.{length-take}
use Rattle.cable_judge.specs.Judge.{Outcome}
use Rattle.cable_judge.specs.Judged.{settled_of}
use Rattle.cable_judge.proofs.Verdicts.{settles, settle-bad, settle-full, settle-done}
use Rattle.cable_judge.proofs.settling.settle.Goals as goal

pub returns-in_default : goal.returns-in_default
returns-in_default c =
    let a = c.args in
    let v = settle-bad a.awaiting.number a.awaiting.count a.s.now a.out.now _ c.in_default.ensures in
    (c.still.ensures ∙ ap settled_of (sym v), ap (λ (o : Outcome). o.out) (sym v))

pub overflow_mul-at : goal.overflow_mul-at
overflow_mul-at c =
    let a = c.args in
    let t = settles a.awaiting.number a.awaiting.count a.s.now a.out.now _ _ c.in-Some.ensures in
    omega (arith, t.facts.below, t.facts.most)

pub overflow_add-at : goal.overflow_add-at
overflow_add-at c =
    let a = c.args in
    let t = settles a.awaiting.number a.awaiting.count a.s.now a.out.now _ _ c.in-Some.ensures in
    omega (arith, t.facts.size, t.facts.below, t.facts.most)

pub returns-then-out-at : goal.returns-then-out-at
returns-then-out-at c =
    let a = c.args in
    let v = settle-full a.awaiting.number a.awaiting.count a.s.now a.out.now _ _ c.in-Some.ensures c.if-out-at.true in
    (c.still-then-out-at.ensures ∙ ap settled_of (sym v), ap (λ (o : Outcome). o.out) (sym v))

pub slice_bounds-body-end : goal.slice_bounds-body-end
slice_bounds-body-end c =
    let a = c.args in
    let t = settles a.awaiting.number a.awaiting.count a.s.now a.out.now _ _ c.in-Some.ensures in
    omega (arith, t.facts.size)

pub slice_bounds-copy-end : goal.slice_bounds-copy-end
slice_bounds-copy-end c =
    let a = c.args in
    let t = settles a.awaiting.number a.awaiting.count a.s.now a.out.now _ _ c.in-Some.ensures in
    omega (arith, t.facts.size, length-take c.in-Some.told.size c.judge.new.body)

pub copy-requires : goal.copy-requires
copy-requires c =
    let a = c.args in
    let t = settles a.awaiting.number a.awaiting.count a.s.now a.out.now _ _ c.in-Some.ensures in
    omega (arith, t.facts.size, length-take c.in-Some.told.size c.judge.new.body)

pub returns : goal.returns
returns c =
    let a = c.args in
    let v = settle-done a.awaiting.number a.awaiting.count a.s.now a.out.now _ _ c.in-Some.ensures (search rules) in
    (rw c.from.ensures (ap settled_of (sym v)), c.copy.ensures ∙ ap (λ (o : Outcome). o.out) (sym v))

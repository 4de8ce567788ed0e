-- Front, digits and what stands behind, in turn; each way is a law.
use borrow.Author.Tests.{not-true, not-false}
use Rattle.cable_compare.proofs.Texts.{other-front, other-digits, same-behind}
use Rattle.cable_data.specs.declared.Pairs.{Pairs}
use lib.ListN.{length-take}
use native.Mathlib.Omega.{arith}
use mathlib.Core.Path.{ap, ◌∙◌}
use Rattle.cable_compare.proofs.is_text.Goals as goal

pub slice_bounds-is_front-end : goal.slice_bounds-is_front-end
slice_bounds-is_front-end c = omega (arith, length-take c.data_from-at.result c.args.s.now, c.data_from-at.ensures)

pub returns-then-not-is_front : goal.returns-then-not-is_front
returns-then-not-is_front c =
    let a = c.args in
    let e = c.data_from-at.ensures in
    other-front a.place.number a.place.count a.size a.s.now c.requires.0 _ (c.is_front.ensures ∙ rw e) _ c.if-not-is_front.true

pub returns-then-not-p : goal.returns-then-not-p
returns-then-not-p c =
    let a = c.args in
    let e = c.data_from-at.ensures in
    other-digits a.place.number a.place.count a.size a.s.now c.requires.0 _ (c.is_front.ensures ∙ rw e) c.if-not-is_front.false _ (ap (λ (p : Pairs). p.all) c.read_pairs-p.ensures.0 ∙ rw e) _ (not-true _ c.if-not-p.true)

pub returns : goal.returns
returns c =
    let a = c.args in
    let e = c.data_from-at.ensures in
    same-behind a.place.number a.place.count a.size a.s.now c.requires.0 _ (c.is_front.ensures ∙ rw e) c.if-not-is_front.false _ (ap (λ (p : Pairs). p.all) c.read_pairs-p.ensures.0 ∙ rw e) (not-false _ c.if-not-p.false) _ a.body.now (c.read_pairs-p.ensures.1 ∙ rw e) _ c.finish.result (c.finish.ensures ∙ rw (c.read_pairs-p.ensures.0, c.check_begun.ensures, e)) (c.is_behind.ensures ∙ rw e)

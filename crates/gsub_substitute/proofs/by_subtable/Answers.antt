-- By the subtable's type, and by whether it covers the glyph.
use mathlib.Core.Path.{sym, ◌∙◌}
use Rattle.gsub_substitute.proofs.Settling.{other-type, uncovered, covered}
use Rattle.gsub_substitute.proofs.by_subtable.Goals as goal

pub returns-then-type_of-ne-SINGLE : goal.returns-then-type_of-ne-SINGLE
returns-then-type_of-ne-SINGLE c = other-type _ _ _ _ (λ e. c.if-type_of-ne-SINGLE.true (c.type_of.ensures ∙ e))

pub returns-in_err-index : goal.returns-in_err-index
returns-in_err-index c =
    let lies = c.subtable_of-subtable in
    rw c.from_residual.ensures
    (uncovered _ _ _ _ (sym c.type_of.ensures ∙ c.if-type_of-ne-SINGLE.false) lies.ensures.0 c.child.ensures.0 (sym c.coverage_index.ensures ∙ c.in_err-index.was))

pub returns : goal.returns
returns c =
    let lies = c.subtable_of-subtable in
    covered _ _ _ _ (sym c.type_of.ensures ∙ c.if-type_of-ne-SINGLE.false) lies.ensures.0 c.child.ensures.0 (sym c.coverage_index.ensures ∙ c.in_ok-index.was) c.single.ensures.0 c.single.ensures.1

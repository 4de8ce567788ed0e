-- The glyphs passed are not the one looked for.
use mathlib.Core.Path.{sym, ◌∙◌}
use borrow.Author.Tests.{eq-eqb, ne_eqb}
use Rattle.gsub_substitute.proofs.Scans.{glyphs-end, glyphs-next}
use Rattle.gsub_substitute.proofs.in_glyphs.Goals as goal

pub returns-then-word_at-glyph : goal.returns-then-word_at-glyph
returns-then-word_at-glyph c =
    sym (c.loop-i.invariant ∙ glyphs-next _ _ _ _ _ _ c.loop-i-test.true ∙ rw (eq-eqb _ _ (sym c.word_at.ensures.0 ∙ c.if-word_at-glyph.true)))

pub loop-i-preserved : goal.loop-i-preserved
loop-i-preserved c =
    c.loop-i.invariant ∙ glyphs-next _ _ _ _ _ _ c.loop-i-test.true ∙ rw (ne_eqb _ _ (λ e. c.if-word_at-glyph.false (c.word_at.ensures.0 ∙ e)))

pub returns : goal.returns
returns c = sym (c.loop-i.invariant ∙ glyphs-end _ _ _ _ _ _ c.loop-i-test.false)

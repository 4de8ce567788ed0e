-- The ranges passed do not hold the glyph.
use mathlib.Core.Path.{◌≡◌, sym, ◌∙◌}
use mathlib.Core.Bool.{◌&&◌}
use lib.Dec.{leb}
use Rattle.std.proofs.Common.{rules}
use Rattle.gsub_substitute.proofs.Scans.{ranges-end, ranges-next}
use Rattle.gsub_substitute.proofs.in_ranges.Goals as goal

pub returns-then-contains : goal.returns-then-contains
returns-then-contains c =
    let held : c.contains.result ≡ (leb c.word_at-start.result c.args.glyph && leb c.args.glyph c.word_at-end.result) = search rules in
    sym
    (c.loop-i.invariant
    ∙ ranges-next _ _ _ _ _ _ c.loop-i-test.true
    ∙ rw (← c.word_at-start.ensures.0, ← c.word_at-end.ensures.0, ← c.word_at.ensures.0, ← held, c.if-contains.true))

pub loop-i-preserved : goal.loop-i-preserved
loop-i-preserved c =
    let held : c.contains.result ≡ (leb c.word_at-start.result c.args.glyph && leb c.args.glyph c.word_at-end.result) = search rules in
    c.loop-i.invariant
    ∙ ranges-next _ _ _ _ _ _ c.loop-i-test.true
    ∙ rw (← c.word_at-start.ensures.0, ← c.word_at-end.ensures.0, ← held, c.if-contains.false)

pub returns : goal.returns
returns c = sym (c.loop-i.invariant ∙ ranges-end _ _ _ _ _ _ c.loop-i-test.false)

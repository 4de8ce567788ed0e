-- The subtables passed do not settle the glyph.
use mathlib.Core.Path.{sym, ◌∙◌}
use native.Mathlib.Omega.{arith}
use Rattle.gsub_substitute.proofs.Scans.{subtables-end, subtables-next}
use Rattle.gsub_substitute.proofs.Settling.{settles, passes}
use Rattle.gsub_substitute.proofs.by_subtables.Goals as goal

pub returns-in-Some : goal.returns-in-Some
returns-in-Some c =
    let made = c.by_subtable.ensures in (
      sym (c.loop-i.invariant ∙ subtables-next _ _ _ _ _ _ c.loop-i-test.true _ ∙ settles _ _ _ _ made c.in-Some.is _),
      rw c.in-Some.is at made.small,
    )

pub loop-i-preserved : goal.loop-i-preserved
loop-i-preserved c =
    c.loop-i.invariant ∙ subtables-next _ _ _ _ _ _ c.loop-i-test.true _ ∙ passes _ _ _ _ c.by_subtable.ensures c.in_default.is _

pub returns : goal.returns
returns c = (sym (c.loop-i.invariant ∙ subtables-end _ _ _ _ _ _ c.loop-i-test.false _), omega arith)

-- The subtables passed do not settle the glyph.
use mathlib.Core.Path.{◌≡◌}
use Prim.Native.Nat.{◌-◌}
use Rattle.gsub.specs.Substitute.{by_subtables, word_from, child_from, far_from}
use Rattle.gsub_substitute.proofs.by_subtables.Given as goal

abbrev pub invariant-loop-i : goal.invariant-loop-i
invariant-loop-i l =
    by_subtables (word_from l.table) (child_from l.table) (far_from l.table) l.lookup l.glyph 0 (word_from l.table l.lookup 4) ≡ by_subtables (word_from l.table) (child_from l.table) (far_from l.table) l.lookup l.glyph l.i (l.i-end - l.i)

-- The ranges passed do not hold the glyph.
use mathlib.Core.Path.{◌≡◌}
use Prim.Native.Nat.{◌-◌}
use Rattle.gsub.specs.Substitute.{in_ranges, word_from, child_from}
use Rattle.gsub_substitute.proofs.in_ranges.Given as goal

abbrev pub invariant-loop-i : goal.invariant-loop-i
invariant-loop-i l =
    in_ranges (word_from l.table) (child_from l.table) l.coverage l.glyph 0 (word_from l.table l.coverage 2) ≡ in_ranges (word_from l.table) (child_from l.table) l.coverage l.glyph l.i (l.i-end - l.i)

-- The glyphs passed are not the one looked for.
use mathlib.Core.Path.{◌≡◌}
use Prim.Native.Nat.{◌-◌}
use Rattle.gsub.specs.Substitute.{in_glyphs, word_from, child_from}
use Rattle.gsub_substitute.proofs.in_glyphs.Given as goal

abbrev pub invariant-loop-i : goal.invariant-loop-i
invariant-loop-i l =
    in_glyphs (word_from l.table) (child_from l.table) l.coverage l.glyph 0 (word_from l.table l.coverage 2) ≡ in_glyphs (word_from l.table) (child_from l.table) l.coverage l.glyph l.i (l.i-end - l.i)

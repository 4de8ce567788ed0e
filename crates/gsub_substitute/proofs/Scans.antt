-- The scans a turn at a time: i of n are passed.
use mathlib.Core.Path.{◌≡◌}
use Prim.Native.Nat.{ℕ, suc, ◌+◌, ◌-◌, ◌*◌, ◌≤◌, ◌<◌}
use mathlib.Core.Bool.{◌&&◌}
use native.Mathlib.Omega.{arith}
use lib.Dec.{eqb, leb}
use Rattle.std.specs.Prelude.{Some, None}
use Rattle.lists.specs.Lists.{pick}
use Rattle.gsub.specs.Substitute.{in_glyphs, in_ranges, coverage_index, settled, subtable, type_of, by_subtables}

module _ {T : Type 0} (word : T → ℕ → ℕ) (child : T → ℕ → T) (t : T) (g i n : ℕ) where
  -- all are passed
  module _ (h : n ≤ i) where
    no-left : n - i ≡ 0
    no-left = omega arith

    pub glyphs-end : in_glyphs word child t g i (n - i) ≡ None
    unfolding in_glyphs
    glyphs-end = rw no-left

    pub ranges-end : in_ranges word child t g i (n - i) ≡ None
    unfolding in_ranges
    ranges-end = rw no-left

    pub subtables-end : (far : T → ℕ → T) → by_subtables word child far t g i (n - i) ≡ g
    unfolding by_subtables
    subtables-end far = rw no-left

  -- one is looked at
  module _ (h : i < n) where
    one_left : n - i ≡ suc (n - (i + 1))
    one_left = omega arith

    pub glyphs-next : in_glyphs word child t g i (n - i) ≡ pick (eqb (word t (4 + 2 * i)) g) (Some i) (in_glyphs word child t g (i + 1) (n - (i + 1)))
    unfolding in_glyphs
    glyphs-next = rw one_left

    pub ranges-next : in_ranges word child t g i (n - i)
        ≡ pick (leb (word t (4 + 6 * i)) g && leb g (word t (6 + 6 * i))) (Some (word t (8 + 6 * i) + (g - word t (4 + 6 * i)))) (in_ranges word child t g (i + 1) (n - (i + 1)))
    unfolding in_ranges
    ranges-next = rw one_left

    pub subtables-next : (far : T → ℕ → T) → let s = subtable word child far t i in let later = by_subtables word child far t g (i + 1) (n - (i + 1)) in
        by_subtables word child far t g i (n - i) ≡ pick (eqb (type_of word child t i) 1) (settled word child s g (coverage_index word child (child s 2) g) later) later
    unfolding by_subtables
    subtables-next far = rw one_left

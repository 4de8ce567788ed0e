-- How far a subtable may lie, and what one subtable makes of a glyph.
use Rattle.std.specs.Prelude.{◌≡◌, ℕ, ◌+◌, ◌*◌, ◌<◌, List, eqb, Option, IfSome}
use Rattle.std.specs.Option.{unwrap_or}
use Rattle.lists.specs.Lists.{pick}
use Rattle.big_endian.specs.BigEndian.{capacity}
use Rattle.gsub.specs.Substitute.{coverage_index, settled, subtable, type_of, word_from, child_from, far_from}

-- behind three offsets of two bytes and one of four
abbrev pub farthest : ℕ
farthest = 3 * capacity 2 + capacity 4

-- the subtable of number i of the Lookup at p, in front of what later ones make of it
abbrev pub by_subtable : List ℕ → ℕ → ℕ → ℕ → ℕ → ℕ
by_subtable b p i g later =
    let s = subtable (word_from b) (child_from b) (far_from b) p i in
    pick (eqb (type_of (word_from b) (child_from b) p i) 1) (settled (word_from b) (child_from b) s g (coverage_index (word_from b) (child_from b) (child_from b s 2) g) later) later

-- the substitute, or where there is none what later subtables make of the glyph
pub record BySubtable (b : List ℕ) (p i g : ℕ) (r : Option ℕ) : Type 0 where
  pub made : (later : ℕ) → by_subtable b p i g later ≡ unwrap_or r later
  pub small : IfSome r (λ x. x < capacity 2)

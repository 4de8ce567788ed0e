-- docs/RULES.md, 11.10: what a lookup substitutes for a glyph, by the OpenType specification: of any tables whose numbers and offsets can be asked for.
use Rattle.std.specs.Prelude.{ℕ, zero, suc, ◌+◌, ◌-◌, ◌*◌, ◌%◌, List, [], ◌&&◌, eqb, leb, ltb, Option, Some, None}
use Rattle.lists.specs.Lists.{pick}
use Rattle.big_endian.specs.BigEndian.{capacity}
use Rattle.model_orders.specs.Reading.{Reading, bytes, field, bytes_of}
use Rattle.gsub.specs.Tables.{word_at, long_at}

-- `word t a` is the 16-bit number at a of the table t, `child t a` the table that its offset at a leads to
module _ {T : Type 0} (word : T → ℕ → ℕ) (child : T → ℕ → T) where
  -- ---- Coverage: a glyph's index

  -- the first of the glyphs from number i on, n of them left
  unfoldable pub in_glyphs : T → ℕ → ℕ → ℕ → Option ℕ
  in_glyphs t g i zero = None
  in_glyphs t g i (suc n) = pick (eqb (word t (4 + 2 * i)) g) (Some i) (in_glyphs t g (i + 1) n)

  -- the first of the ranges: startGlyphID, endGlyphID, startCoverageIndex
  unfoldable pub in_ranges : T → ℕ → ℕ → ℕ → Option ℕ
  in_ranges t g i zero = None
  in_ranges t g i (suc n) =
      let start = word t (4 + 6 * i) in
      pick (leb start g && leb g (word t (6 + 6 * i))) (Some (word t (8 + 6 * i) + (g - start))) (in_ranges t g (i + 1) n)

  unfoldable pub coverage_index : T → ℕ → Option ℕ
  coverage_index t g = pick (eqb (word t 0) 1) (in_glyphs t g 0 (word t 2)) (in_ranges t g 0 (word t 2))

  -- ---- single substitution

  -- of a covered glyph: deltaGlyphID added modulo 65,536, or the substitute of that index; an index past the list changes nothing
  abbrev pub single : T → ℕ → ℕ → ℕ
  single t g i = pick (eqb (word t 0) 1) ((g + word t 4) % capacity 2) (pick (ltb i (word t 4)) (word t (6 + 2 * i)) g)

  -- the subtable t settles a glyph that it covers; others go on
  abbrev pub settled : T → ℕ → Option ℕ → ℕ → ℕ
  settled t g None later = later
  settled t g (Some i) later = single t g i

  -- ---- a Lookup; `far t a` is the table that the offset of four bytes at a leads to

  -- the type of the subtable of number i: the Lookup's own, or of type 7 that of the Extension there
  unfoldable pub type_of : T → ℕ → ℕ
  type_of t i = pick (eqb (word t 0) 7) (word (child t (6 + 2 * i)) 2) (word t 0)

  module _ (far : T → ℕ → T) where
    -- the subtable itself: where its offset leads, or of type 7 behind the Extension there
    unfoldable pub subtable : T → ℕ → T
    subtable t i = let s = child t (6 + 2 * i) in pick (eqb (word t 0) 7) (far s 4) s

    -- the first subtable of type 1 that covers the glyph, from number i on, n of them left
    unfoldable pub by_subtables : T → ℕ → ℕ → ℕ → ℕ
    by_subtables t g i zero = g
    by_subtables t g i (suc n) =
        let s = subtable t i in
        let later = by_subtables t g (i + 1) n in
        pick (eqb (type_of t i) 1) (settled s g (coverage_index (child s 2) g) later) later

    -- the lookup of a number in the LookupList, of a Header; a number past the list is no lookup, and changes nothing
    unfoldable pub substitute_in : T → ℕ → ℕ → ℕ
    substitute_in t l g =
        let list = child t 8 in
        let lookup = child list (2 + 2 * l) in
        pick (ltb l (word list 0)) (by_subtables lookup g 0 (word lookup 4)) g

-- ---- of a reading

abbrev pub word_of : Reading → ℕ → ℕ
word_of r a = word_at (bytes_of r) a

-- the child of the field at a
unfoldable pub child_of : Reading → ℕ → Reading
child_of (bytes b) a = bytes []
child_of (field s c r) a = pick (eqb s.at a) c (child_of r a)

abbrev pub substitute : Reading → ℕ → ℕ → ℕ
substitute r l g = substitute_in word_of child_of child_of r l g

-- ---- of a slice, a table being its place there

abbrev pub word_from : List ℕ → ℕ → ℕ → ℕ
word_from b p a = word_at b (p + a)

abbrev pub child_from : List ℕ → ℕ → ℕ → ℕ
child_from b p a = p + word_at b (p + a)

abbrev pub far_from : List ℕ → ℕ → ℕ → ℕ
far_from b p a = p + long_at b (p + a)

abbrev pub substitute_from : List ℕ → ℕ → ℕ → ℕ
substitute_from b l g = substitute_in (word_from b) (child_from b) (far_from b) 0 l g

-- What one subtable makes of a glyph, by its type and by whether it covers it.
use mathlib.Core.Path.{◌≡◌, ◌∙◌}
use Prim.Native.Nat.{ℕ, ◌<◌}
use mathlib.Core.List.{List}
use borrow.Author.Tests.{eq-eqb, ne_eqb}
use Rattle.big_endian.specs.BigEndian.{capacity}
use Rattle.gsub.specs.Substitute.{coverage_index, single, subtable, type_of, word_from, child_from, far_from}
use Rattle.std.specs.Prelude.{Option, Some, None}
use Rattle.gsub_substitute.specs.Found.{by_subtable, BySubtable}

module _ (b : List ℕ) (p i g : ℕ) where
  abbrev type : ℕ
  type = type_of (word_from b) (child_from b) p i

  pub other-type : (type ≡ 1 → ⊥) → BySubtable b p i g None
  other-type n = record { made = λ later. rw (ne_eqb type 1 n); small = tt }

  -- of type 1, at s, with its Coverage at c
  module _ {s c : ℕ} (one : type ≡ 1) (lies : s ≡ subtable (word_from b) (child_from b) (far_from b) p i) (covers : c ≡ child_from b s 2) where
    pub uncovered : coverage_index (word_from b) (child_from b) c g ≡ None → BySubtable b p i g None
    uncovered e = record { made = λ later. rw (eq-eqb type 1 one, ← lies, ← covers, e); small = tt }

    pub covered : {x r : ℕ} → coverage_index (word_from b) (child_from b) c g ≡ Some x → r ≡ single (word_from b) (child_from b) s g x → r < capacity 2 → BySubtable b p i g (Some r)
    covered e f l = record { made = λ later. rw (eq-eqb type 1 one, ← lies, ← covers, e, f); small = l }

  -- what is told so is the substitute, whatever later ones make of it
  pub settles : {r : Option ℕ} {x : ℕ} → BySubtable b p i g r → r ≡ Some x → (later : ℕ) → by_subtable b p i g later ≡ x
  settles by e later = by.made later ∙ rw e

  -- and where none is told it is what they make of it
  pub passes : {r : Option ℕ} → BySubtable b p i g r → r ≡ None → (later : ℕ) → by_subtable b p i g later ≡ later
  passes by e later = by.made later ∙ rw e

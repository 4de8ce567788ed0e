-- The substitutes of a table that was read without refusal 15 are its reading's.
use mathlib.Core.Path.{◌≡◌, refl, sym, ap, subst, ◌∙◌}
use Prim.Native.Nat.{ℕ, zero, suc, ◌+◌, ◌*◌, ◌%◌, ◌<◌}
use mathlib.Core.List.{List, [], ◌∷◌}
use mathlib.Core.Bool.{Bool, true, false}
use native.Mathlib.Omega.{arith}
use borrow.Author.Tests.{eqb-true, ltb-true}
use lib.Dec.{eqb, ltb}
use Rattle.std.specs.Prelude.{Option, Some, None}
use Rattle.lists.specs.Lists.{pick}
use Rattle.big_endian.specs.BigEndian.{capacity}
use Rattle.model_orders.specs.Reading.{Reading}
use Rattle.gsub.specs.declared.Scope.{Scope}
use Rattle.gsub.specs.declared.Scope.TheVariants.{Single, Whole}
use Rattle.gsub.specs.declared.Kind.{Kind}
use Rattle.gsub.specs.declared.Kind.TheVariants.{Header, LookupList, Lookup, Extension, SingleSubst, Coverage}
use Rattle.gsub.specs.declared.Field.{Field}
use Rattle.gsub.specs.Tables.{uint16, is, offset16, offset32, header10, header11, lookup_of, extension_of, Shape, by_number, formats, shape, fields_of, laid, size, fields_at, single_subst1, single_subst2}
use Rattle.gsub.specs.Ops.{Op, ops_by, table_ops}
use Rattle.gsub.specs.Meaning.{reading_by, table_reading, deepest, gsub_reading}
use Rattle.gsub.specs.Substitute.{in_glyphs, in_ranges, coverage_index, single, settled, subtable, type_of, by_subtables, substitute_in, word_of, child_of, substitute, word_from, child_from, far_from, substitute_from}
use Rattle.gsub.proofs.Again.{Clean}
use Rattle.gsub.proofs.Formats.{each_shape, each_format, of-shape}
use Rattle.gsub.proofs.Settled.{plain_at, front_plain}
use Rattle.gsub.proofs.Places.{From, wide, in-front, in-run, Plain, plain-front, table-word, table-child, table-far}

-- ---- the fields that a substitute asks for

module _ (word : ℕ → ℕ) where
  abbrev LeadsTo : Kind → Field → Type 0
  LeadsTo k f = f ≡ offset16 k

  -- a plain field in front of each format
  plain-at : (x : ℕ) (k : Kind) → each_format (front_plain x) (formats k) ≡ true → From Plain x (fields_of k word)
  unfolding fields_of
  plain-at x k h = plain-front word x (shape k (word 0) (word 2)) (of-shape (front_plain x) (formats k) (word 0) (word 2) h)

  -- the format that its first number, or its second, chooses
  by_first : (P : Field → Type 0) (x n : ℕ) (k : Kind) → word 0 ≡ n → From P x (laid word 0 (shape k n (word 2))) → From P x (fields_of k word)
  unfolding fields_of
  by_first P x n k e h = subst (λ z. From P x (laid word 0 (shape k z (word 2)))) (sym e) h

  by-second : (P : Field → Type 0) (x n : ℕ) (k : Kind) → word 2 ≡ n → From P x (laid word 0 (shape k (word 0) n)) → From P x (fields_of k word)
  unfolding fields_of
  by-second P x n k e h = subst (λ z. From P x (laid word 0 (shape k (word 0) z))) (sym e) h

  by-format : (P : Field → Type 0) (x : ℕ) (t : Bool) (m n : Shape) → From P x (laid word 0 m) → From P x (laid word 0 n) → From P x (laid word 0 (pick t m n))
  by-format P x true m n h k = h
  by-format P x false m n h k = k

  header-list : (s : Scope) → From (LeadsTo (LookupList s)) 8 (fields_of (Header s) word)
  unfolding fields_of formats by_number From
  header-list Single = in-front (LeadsTo (LookupList Single)) word _ [] 8 (omega arith, (omega arith, (omega arith, (omega arith, refl))))
  header-list Whole =
      by-format (LeadsTo (LookupList Whole)) 8 (eqb (word 2) 0) (header10 Whole) header11
      (in-front (LeadsTo (LookupList Whole)) word _ [] 8 (omega arith, (omega arith, (omega arith, (omega arith, refl)))))
      (in-front (LeadsTo (LookupList Whole)) word _ [] 8 (omega arith, (omega arith, (omega arith, (omega arith, refl)))))

  list_count : (s : Scope) → From Plain 0 (fields_of (LookupList s) word)
  unfolding formats front_plain plain_at
  list_count s = plain-at 0 (LookupList s) refl

  list-lookup : (s : Scope) (l : ℕ) → l < word 0 → From (LeadsTo (Lookup s)) (2 + 2 * l) (fields_of (LookupList s) word)
  unfolding fields_of formats From size wide
  list-lookup s l h = in-run (LeadsTo (Lookup s)) word (uint16 ∷ []) _ _ l 0 (2 + 2 * l) refl refl refl h (omega arith)

  pub lookup-type : (s : Scope) → From Plain 0 (fields_of (Lookup s) word)
  unfolding formats each_shape front_plain plain_at
  lookup-type Single = plain-at 0 (Lookup Single) refl
  lookup-type Whole = plain-at 0 (Lookup Whole) refl

  pub lookup-count : (s : Scope) → From Plain 4 (fields_of (Lookup s) word)
  unfolding formats each_shape front_plain plain_at
  lookup-count Single = plain-at 4 (Lookup Single) refl
  lookup-count Whole = plain-at 4 (Lookup Whole) refl

  lookup-offset : (type : ℕ) (k : Kind) (i : ℕ) → i < word 4 → From (LeadsTo k) (6 + 2 * i) (laid word 0 (lookup_of type k))
  unfolding From size wide
  lookup-offset type k i h = in-run (LeadsTo k) word (is type ∷ uint16 ∷ uint16 ∷ []) _ _ i 0 (6 + 2 * i) refl refl refl h (omega arith)

  lookup-subtable : (s : Scope) (i : ℕ) → word 0 ≡ 1 → i < word 4 → From (LeadsTo SingleSubst) (6 + 2 * i) (fields_of (Lookup s) word)
  unfolding formats by_number
  lookup-subtable Single i e h = by_first (LeadsTo SingleSubst) (6 + 2 * i) 1 (Lookup Single) e (lookup-offset 1 SingleSubst i h)
  lookup-subtable Whole i e h = by_first (LeadsTo SingleSubst) (6 + 2 * i) 1 (Lookup Whole) e (lookup-offset 1 SingleSubst i h)

  pub lookup-extension : (s : Scope) (i : ℕ) → word 0 ≡ 7 → i < word 4 → From (LeadsTo (Extension s)) (6 + 2 * i) (fields_of (Lookup s) word)
  unfolding formats by_number
  lookup-extension Single i e h = by_first (LeadsTo (Extension Single)) (6 + 2 * i) 7 (Lookup Single) e (lookup-offset 7 (Extension Single) i h)
  lookup-extension Whole i e h = by_first (LeadsTo (Extension Whole)) (6 + 2 * i) 7 (Lookup Whole) e (lookup-offset 7 (Extension Whole) i h)

  pub extension-type : (s : Scope) → From Plain 2 (fields_of (Extension s) word)
  unfolding formats each_shape front_plain plain_at
  extension-type Single = plain-at 2 (Extension Single) refl
  extension-type Whole = plain-at 2 (Extension Whole) refl

  extension-offset : From (λ f. f ≡ offset32 SingleSubst) 4 (laid word 0 (extension_of 1 SingleSubst))
  unfolding From
  extension-offset = in-front (λ f. f ≡ offset32 SingleSubst) word _ [] 4 (omega arith, (omega arith, refl))

  pub extension-subtable : (s : Scope) → word 2 ≡ 1 → From (λ f. f ≡ offset32 SingleSubst) 4 (fields_of (Extension s) word)
  unfolding formats by_number
  extension-subtable Single e = by-second (λ f. f ≡ offset32 SingleSubst) 4 1 (Extension Single) e extension-offset
  extension-subtable Whole e = by-second (λ f. f ≡ offset32 SingleSubst) 4 1 (Extension Whole) e extension-offset

  single-format : From Plain 0 (fields_of SingleSubst word)
  unfolding formats each_shape front_plain plain_at
  single-format = plain-at 0 SingleSubst refl

  single-coverage : From (LeadsTo Coverage) 2 (fields_of SingleSubst word)
  unfolding fields_of formats by_number From
  single-coverage =
      by-format (LeadsTo Coverage) 2 (eqb (word 0) 1) single_subst1 single_subst2
      (in-front (LeadsTo Coverage) word _ _ 2 (omega arith, refl))
      (in-front (LeadsTo Coverage) word _ _ 2 (omega arith, refl))

  -- deltaGlyphID, or glyphCount
  single-third : From Plain 4 (fields_of SingleSubst word)
  unfolding formats each_shape front_plain plain_at
  single-third = plain-at 4 SingleSubst refl

  single-glyph : (i : ℕ) → eqb (word 0) 1 ≡ false → i < word 4 → From Plain (6 + 2 * i) (fields_of SingleSubst word)
  unfolding fields_of formats by_number From size wide
  single-glyph i e h = rw e (in-run Plain word (is 2 ∷ offset16 Coverage ∷ uint16 ∷ []) _ _ i 0 (6 + 2 * i) refl refl (refl, refl) h (omega arith))

  coverage-format : From Plain 0 (fields_of Coverage word)
  unfolding formats each_shape front_plain plain_at
  coverage-format = plain-at 0 Coverage refl

  coverage-count : From Plain 2 (fields_of Coverage word)
  unfolding formats each_shape front_plain plain_at
  coverage-count = plain-at 2 Coverage refl

  coverage-glyph : (i : ℕ) → eqb (word 0) 1 ≡ true → i < word 2 → From Plain (4 + 2 * i) (fields_of Coverage word)
  unfolding fields_of formats by_number From size wide
  coverage-glyph i e h = rw e (in-run Plain word (is 1 ∷ uint16 ∷ []) _ _ i 0 (4 + 2 * i) refl refl (refl, refl) h (omega arith))

  -- startGlyphID, endGlyphID, startCoverageIndex
  coverage-range : (i d : ℕ) → From Plain d (uint16 ∷ uint16 ∷ uint16 ∷ []) → eqb (word 0) 1 ≡ false → i < word 2 → From Plain (4 + d + 6 * i) (fields_of Coverage word)
  unfolding fields_of formats by_number From size wide
  coverage-range i d k e h = rw e (in-run Plain word (is 2 ∷ uint16 ∷ []) _ _ i d (4 + d + 6 * i) refl refl k h (omega arith))

-- ---- the same numbers and children give the same substitutes

module _ {T U : Type 0} (word : T → ℕ → ℕ) (child : T → ℕ → T) (word' : U → ℕ → ℕ) (child' : U → ℕ → U) (t : T) (u : U) (g : ℕ) where
  glyphs-same : (n i : ℕ) → ((j : ℕ) → j < i + n → word t (4 + 2 * j) ≡ word' u (4 + 2 * j)) → in_glyphs word child t g i n ≡ in_glyphs word' child' u g i n
  unfolding in_glyphs
  glyphs-same zero i h = refl
  glyphs-same (suc n) i h = rw (h i (omega arith), glyphs-same n (i + 1) (λ j l. h j (omega arith)))

  record SameRange (j : ℕ) : Type 0 where
    start : word t (4 + 6 * j) ≡ word' u (4 + 6 * j)
    end : word t (6 + 6 * j) ≡ word' u (6 + 6 * j)
    index : word t (8 + 6 * j) ≡ word' u (8 + 6 * j)

  ranges-same : (n i : ℕ) → ((j : ℕ) → j < i + n → SameRange j) → in_ranges word child t g i n ≡ in_ranges word' child' u g i n
  unfolding in_ranges
  ranges-same zero i h = refl
  ranges-same (suc n) i h =
      let r = h i (omega arith) in
      rw (r.start, r.end, r.index, ranges-same n (i + 1) (λ j l. h j (omega arith)))

  -- a Coverage
  record SameCoverage : Type 0 where
    format : word t 0 ≡ word' u 0
    count : word t 2 ≡ word' u 2
    glyph : eqb (word t 0) 1 ≡ true → (j : ℕ) → j < word t 2 → word t (4 + 2 * j) ≡ word' u (4 + 2 * j)
    range : eqb (word t 0) 1 ≡ false → (j : ℕ) → j < word t 2 → SameRange j

  coverage-same : SameCoverage → coverage_index word child t g ≡ coverage_index word' child' u g
  unfolding coverage_index
  coverage-same s = rw (← s.format, ← s.count) (go (eqb (word t 0) 1) refl)
    where
      go : (x : Bool) → eqb (word t 0) 1 ≡ x
          → pick x (in_glyphs word child t g 0 (word t 2)) (in_ranges word child t g 0 (word t 2)) ≡ pick x (in_glyphs word' child' u g 0 (word t 2)) (in_ranges word' child' u g 0 (word t 2))
      go true e = glyphs-same (word t 2) 0 (λ j l. s.glyph e j (omega arith))
      go false e = ranges-same (word t 2) 0 (λ j l. s.range e j (omega arith))

  -- a SingleSubst
  record SameSingle : Type 0 where
    format : word t 0 ≡ word' u 0
    third : word t 4 ≡ word' u 4
    glyph : eqb (word t 0) 1 ≡ false → (j : ℕ) → j < word t 4 → word t (6 + 2 * j) ≡ word' u (6 + 2 * j)

  single-same : SameSingle → (i : ℕ) → single word child t g i ≡ single word' child' u g i
  single-same s i = rw (← s.format, ← s.third) (go (eqb (word t 0) 1) refl (ltb i (word t 4)) refl)
    where
      go : (x : Bool) → eqb (word t 0) 1 ≡ x → (y : Bool) → ltb i (word t 4) ≡ y
          → pick x ((g + word t 4) % capacity 2) (pick y (word t (6 + 2 * i)) g) ≡ pick x ((g + word t 4) % capacity 2) (pick y (word' u (6 + 2 * i)) g)
      go true e y f = refl
      go false e true f = s.glyph e i (ltb-true i (word t 4) f)
      go false e false f = refl

module _ {T U : Type 0} (word : T → ℕ → ℕ) (child : T → ℕ → T) (word' : U → ℕ → ℕ) (child' : U → ℕ → U) (g : ℕ) where
  -- two subtables
  pub record SameSubtable (s : T) (r : U) : Type 0 where
    index : coverage_index word child (child s 2) g ≡ coverage_index word' child' (child' r 2) g
    glyph : (i : ℕ) → single word child s g i ≡ single word' child' r g i

  settled_same : (s : T) (r : U) (x : Option ℕ) {l m : ℕ} → SameSubtable s r → l ≡ m → settled word child s g x l ≡ settled word' child' r g x m
  settled_same s r None h e = e
  settled_same s r (Some i) h e = h.glyph i

  module _ (far : T → ℕ → T) (far' : U → ℕ → U) where
    -- the subtables of number j of two lookups: of the same type, and alike where that is 1
    pub record SameTyped (t : T) (u : U) (j : ℕ) : Type 0 where
      pub type : type_of word child t j ≡ type_of word' child' u j
      pub alike : type_of word child t j ≡ 1 → SameSubtable (subtable word child far t j) (subtable word' child' far' u j)

    pub subtables-same : (t : T) (u : U) (n i : ℕ) → ((j : ℕ) → j < i + n → SameTyped t u j) → by_subtables word child far t g i n ≡ by_subtables word' child' far' u g i n
    unfolding by_subtables
    subtables-same t u zero i h = refl
    subtables-same t u (suc n) i h = rw (← (h i (omega arith)).type) (go (eqb (type_of word child t i) 1) refl (subtables-same t u n (i + 1) (λ j l. h j (omega arith))))
      where
        go : (x : Bool) → eqb (type_of word child t i) 1 ≡ x → by_subtables word child far t g (i + 1) n ≡ by_subtables word' child' far' u g (i + 1) n
            → (let a = subtable word child far t i in let c = subtable word' child' far' u i in let l = by_subtables word child far t g (i + 1) n in let m = by_subtables word' child' far' u g (i + 1) n in
            pick x (settled word child a g (coverage_index word child (child a 2) g) l) l ≡ pick x (settled word' child' c g (coverage_index word' child' (child' c 2) g) m) m)
        go true e later =
            let s = (h i (omega arith)).alike (eqb-true (type_of word child t i) 1 e) in
            rw s.index (settled_same (subtable word child far t i) (subtable word' child' far' u i) (coverage_index word' child' (child' (subtable word' child' far' u i) 2) g) s later)
        go false e later = later

    -- two lookups
    abbrev pub SameLookup : T → U → Type 0
    SameLookup x y = by_subtables word child far x g 0 (word x 4) ≡ by_subtables word' child' far' y g 0 (word' y 4)

    -- of two lists
    lookups-same : (t : T) (u : U) (l : ℕ) → word (child t 8) 0 ≡ word' (child' u 8) 0
        → (l < word (child t 8) 0 → SameLookup (child (child t 8) (2 + 2 * l)) (child' (child' u 8) (2 + 2 * l)))
        → substitute_in word child far t l g ≡ substitute_in word' child' far' u l g
    unfolding substitute_in
    lookups-same t u l e h = rw (← e) (go (ltb l (word (child t 8) 0)) refl)
      where
        go : (z : Bool) → ltb l (word (child t 8) 0) ≡ z
            → (let x = child (child t 8) (2 + 2 * l) in let y = child' (child' u 8) (2 + 2 * l) in pick z (by_subtables word child far x g 0 (word x 4)) g ≡ pick z (by_subtables word' child' far' y g 0 (word' y 4)) g)
        go true f = h (ltb-true l (word (child t 8) 0) f)
        go false f = refl

-- ---- each table and its reading

module _ (b : List ℕ) (g : ℕ) where
  abbrev pub word : ℕ → ℕ → ℕ
  word = word_from b

  abbrev pub child : ℕ → ℕ → ℕ
  child = child_from b

  abbrev pub far : ℕ → ℕ → ℕ
  far = far_from b

  -- of a table that is read at most d tables deep below itself
  module _ (d : ℕ) where
    abbrev ops : ℕ → Kind → ℕ → List Op
    ops a = table_ops d b

    abbrev rd : ℕ → Kind → ℕ → Reading
    rd a = table_reading d b

    coverage-read : (p : ℕ) → Clean (ops_by ops b Coverage p) → SameCoverage word child word_of child_of p (reading_by rd b Coverage p) g
    unfolding From
    coverage-read p c =
        let same : (x : ℕ) → From Plain x (fields_at b Coverage p) → word p x ≡ word_of (reading_by rd b Coverage p) x = λ x h. sym (table-word ops rd b Coverage p c x h) in
        let numbers : ℕ → ℕ = λ i. word p i in
        record {
          format = same 0 (coverage-format numbers);
          count = same 2 (coverage-count numbers);
          glyph = λ e j h. same (4 + 2 * j) (coverage-glyph numbers j e h);
          range = λ e j h. record {
            start = same (4 + 6 * j) (coverage-range numbers j 0 (refl, refl) e h);
            end = same (6 + 6 * j) (coverage-range numbers j 2 (omega arith, (refl, refl)) e h);
            index = same (8 + 6 * j) (coverage-range numbers j 4 (omega arith, (omega arith, (refl, refl))) e h);
          };
        }

    single-read : (p : ℕ) → Clean (ops_by ops b SingleSubst p) → SameSingle word child word_of child_of p (reading_by rd b SingleSubst p) g
    single-read p c =
        let same : (x : ℕ) → From Plain x (fields_at b SingleSubst p) → word p x ≡ word_of (reading_by rd b SingleSubst p) x = λ x h. sym (table-word ops rd b SingleSubst p c x h) in
        let numbers : ℕ → ℕ = λ i. word p i in
        record { format = same 0 (single-format numbers); third = same 4 (single-third numbers); glyph = λ e j h. same (6 + 2 * j) (single-glyph numbers j e h) }

  pub subtable-read : (d p : ℕ) → Clean (table_ops (suc (suc d)) b SingleSubst p) → SameSubtable word child word_of child_of g p (table_reading (suc (suc d)) b SingleSubst p)
  unfolding table_ops table_reading
  subtable-read d p c =
      let l = table-child (ops (suc d)) (rd (suc d)) b SingleSubst p c 2 Coverage (single-coverage (λ i. word p i)) in
      record {
        index = coverage-same word child word_of child_of (child p 2) _ g (coverage-read d (child p 2) l.clean) ∙ ap (λ r. coverage_index word_of child_of r g) (sym l.reading);
        glyph = single-same word child word_of child_of p _ g (single-read (suc d) p c);
      }

  abbrev pub ReadLookup : ℕ → Reading → Type 0
  ReadLookup p r = SameLookup word child word_of child_of g far child_of p r

  module _ (s : Scope) (d p : ℕ) where
    abbrev under : ℕ
    under = suc (suc (suc d))

    abbrev whole : Reading
    whole = reading_by (rd under) b (Lookup s) p

    abbrev Typed : Reading → ℕ → Type 0
    Typed r j = SameTyped word child word_of child_of g far child_of p r j

    -- by whether the lookup's type is 7
    typed-by : Clean (ops_by (ops under) b (Lookup s) p) → word_of whole 0 ≡ word p 0 → (j : ℕ) → j < word p 4 → (t : Bool) → eqb (word p 0) 7 ≡ t → Typed whole j
    unfolding table_ops table_reading type_of subtable
    typed-by c type j h true e =
        let l = table-child (ops under) (rd under) b (Lookup s) p c (6 + 2 * j) (Extension s) (lookup-extension (λ i. word p i) s j (eqb-true (word p 0) 7 e) h) in
        let q = child p (6 + 2 * j) in
        let of = table-word (ops (suc (suc d))) (rd (suc (suc d))) b (Extension s) q l.clean 2 (extension-type (λ i. word q i) s) in
        record {
          type = rw (type, e, l.reading) (sym of);
          alike = λ one.
              let x = table-far (ops (suc (suc d))) (rd (suc (suc d))) b (Extension s) q l.clean 4 SingleSubst (extension-subtable (λ i. word q i) s (rw e at one)) in
              rw (type, e, l.reading, x.reading) (subtable-read d (far q 4) x.clean);
        }
    typed-by c type j h false e = record {
      type = rw (type, e);
      alike = λ one.
          let l = table-child (ops under) (rd under) b (Lookup s) p c (6 + 2 * j) SingleSubst (lookup-subtable (λ i. word p i) s j (rw e at one) h) in
          rw (type, e, l.reading) (subtable-read (suc d) (child p (6 + 2 * j)) l.clean);
    }

    pub lookup-read : Clean (ops_by (ops under) b (Lookup s) p) → ReadLookup p whole
    lookup-read c =
        let type = table-word (ops under) (rd under) b (Lookup s) p c 0 (lookup-type (λ i. word p i) s) in
        let count = table-word (ops under) (rd under) b (Lookup s) p c 4 (lookup-count (λ i. word p i) s) in
        rw count (subtables-same word child word_of child_of g far child_of p whole (word p 4) 0 (λ j h. typed-by c type j (omega arith) (eqb (word p 0) 7) refl))

  -- ---- a whole table, given what its LookupList and the lookups there are read as

  module _ (s : Scope) (ops : ℕ → Kind → ℕ → List Op) (rd : ℕ → Kind → ℕ → Reading) (lookup_ops : ℕ → ℕ → Kind → ℕ → List Op) (lookup_reading : ℕ → ℕ → Kind → ℕ → Reading)
      (lists : (p : ℕ) → ops 8 (LookupList s) p ≡ ops_by (lookup_ops p) b (LookupList s) p) (lists-read : (p : ℕ) → rd 8 (LookupList s) p ≡ reading_by (lookup_reading p) b (LookupList s) p)
      (lookups : (p a q : ℕ) → Clean (lookup_ops p a (Lookup s) q) → ReadLookup q (lookup_reading p a (Lookup s) q)) where
    pub substitutes-by : Clean (ops_by ops b (Header s) 0) → (l : ℕ) → substitute_from b l g ≡ substitute (reading_by rd b (Header s) 0) l g
    substitutes-by c l =
        let top = table-child ops rd b (Header s) 0 c 8 (LookupList s) (header-list (λ i. word 0 i) s) in
        let p = child 0 8 in
        let clean = rw (lists p) at top.clean in
        let count = table-word (lookup_ops p) (lookup_reading p) b (LookupList s) p clean 0 (list_count (λ i. word p i) s) in
        lookups-same word child word_of child_of g far child_of 0 (reading_by rd b (Header s) 0) l (rw (top.reading, lists-read p) (sym count)) (λ h.
        let x = table-child (lookup_ops p) (lookup_reading p) b (LookupList s) p clean (2 + 2 * l) (Lookup s) (list-lookup (λ i. word p i) s l h) in
        rw (top.reading, lists-read p, x.reading) (lookups p (2 + 2 * l) (child p (2 + 2 * l)) x.clean))

pub substitute-read : (s : Scope) (b : List ℕ) → Clean (table_ops deepest b (Header s) 0) → (l g : ℕ) → substitute_from b l g ≡ substitute (gsub_reading s b) l g
unfolding table_ops table_reading
substitute-read s b c l g = substitutes-by b g s (λ a. table_ops 6 b) (λ a. table_reading 6 b) (λ p a. table_ops 5 b) (λ p a. table_reading 5 b) (λ p. refl) (λ p. refl) (λ p a q. lookup-read b g s 1 q) c l

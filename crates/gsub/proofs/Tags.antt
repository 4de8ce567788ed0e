-- A field that a tag plays a part in stands just behind one.
use mathlib.Core.Path.{◌≡◌, refl}
use Prim.Native.Nat.{ℕ, zero, suc, ◌<◌}
use mathlib.Core.List.{List, [], ◌∷◌, ◌++◌}
use mathlib.Core.Bool.{Bool, true, false, ◌&&◌}
use native.Mathlib.Omega.{arith}
use lib.ListN.{length, get_or}
use lib.Dec.{eqb}
use Rattle.lists.proofs.Same.{and_left, and_right}
use Rattle.gsub.specs.declared.Scope.{Scope}
use Rattle.gsub.specs.declared.Scope.TheVariants.{Single, Whole}
use Rattle.gsub.specs.declared.Kind.{Kind}
use Rattle.gsub.specs.declared.Kind.TheVariants.{Lookup}
use Rattle.gsub.specs.declared.Rule.{Rule}
use Rattle.gsub.specs.declared.Rule.TheVariants.{Any, Only, To, ToOrNull, ToFeature}
use Rattle.gsub.specs.declared.Field.{Field}
use Rattle.gsub.specs.Tables.{uint16, formats, shape, fields_of}
use Rattle.gsub.proofs.Formats.{kinds, of_all, every_kind, each_shape, each_format, of-shape, every-shape}
use Rattle.gsub.proofs.Fields.{both, all_fields, all_runs, all_laid, fields_join}
use Rattle.gsub.proofs.Settled.{plain_rule}

abbrev pub is_tag : Field → Bool
is_tag f = eqb f.width 4 && plain_rule f.rule

-- `last`: a tag stands just before
abbrev pub tag_fits : Bool → Rule → Bool
tag_fits last Any = true
tag_fits last (Only x) = true
tag_fits last (To k) = true
tag_fits last (ToOrNull k) = true
tag_fits last ToFeature = last

unfoldable pub tags_stand : Bool → List Field → Bool
tags_stand last [] = true
tags_stand last (f ∷ fs) = tag_fits last f.rule && tags_stand (is_tag f) fs

-- a tag before them takes nothing away
fits_more : (last : Bool) (r : Rule) → tag_fits false r ≡ true → tag_fits last r ≡ true
fits_more last Any h = refl
fits_more last (Only x) h = refl
fits_more last (To k) h = refl
fits_more last (ToOrNull k) h = refl
fits_more last ToFeature h = absurd (let z : ◌≡◌ {A = ℕ} 0 1 = cc in omega arith)

stand-more : (last : Bool) (fs : List Field) → tags_stand false fs ≡ true → tags_stand last fs ≡ true
unfolding tags_stand
stand-more last [] h = refl
stand-more last (f ∷ fs) h = both (fits_more last f.rule (and_left (tag_fits false f.rule) _ h)) (and_right (tag_fits false f.rule) _ h)

stand-join : (last : Bool) (a b : List Field) → tags_stand last a ≡ true → tags_stand false b ≡ true → tags_stand last (a ++ b) ≡ true
unfolding tags_stand
stand-join last [] b h l = stand-more last b l
stand-join last (f ∷ a) b h l = both (and_left (tag_fits last f.rule) _ h) (stand-join (is_tag f) a b (and_right (tag_fits last f.rule) _ h) l)

shape-tags : (k : Kind) (first second : ℕ) → all_runs (tags_stand false) (shape k first second) ≡ true
unfolding every_kind of_all kinds each_shape formats all_runs tags_stand
shape-tags = every-shape (λ k. all_runs (tags_stand false)) refl

pub all-tags : (k : Kind) (w : ℕ → ℕ) → tags_stand false (fields_of k w) ≡ true
unfolding fields_of tags_stand
all-tags k w = all_laid (tags_stand false) (record { none = refl; join = stand-join false }) w (shape k (w 0) (w 2)) 0 (shape-tags k (w 0) (w 2))

-- ---- and a Lookup has no such field

abbrev untagged : Field → Bool
untagged f = tag_fits false f.rule

untagged-fields : (s : Scope) (w : ℕ → ℕ) → all_fields untagged (fields_of (Lookup s) w) ≡ true
unfolding fields_of each_shape formats all_runs
untagged-fields s w = all_laid (all_fields untagged) (fields_join untagged) w (shape (Lookup s) (w 0) (w 2)) 0 (of-shape (all_runs (all_fields untagged)) (formats (Lookup s)) (w 0) (w 2) (go s))
  where
    go : (s : Scope) → each_format (all_runs (all_fields untagged)) (formats (Lookup s)) ≡ true
    go Single = refl
    go Whole = refl

field_at : (fs : List Field) (i : ℕ) (d : Field) → all_fields untagged fs ≡ true → i < length fs → untagged (get_or fs i d) ≡ true
field_at [] i d h l = absurd (omega arith)
field_at (f ∷ fs) zero d h l = and_left (untagged f) _ h
field_at (f ∷ fs) (suc i) d h l = field_at fs i d (and_right (untagged f) _ h) (omega arith)

pub no-tag : (s : Scope) (w : ℕ → ℕ) (i : ℕ) {f : Field} → i < length (fields_of (Lookup s) w) → get_or (fields_of (Lookup s) w) i uint16 ≡ f → tag_fits false f.rule ≡ true
no-tag s w i l e = rw e at (field_at (fields_of (Lookup s) w) i uint16 (untagged-fields s w) l)

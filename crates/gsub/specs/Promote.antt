-- docs/RULES.md, 15.1 to 15.3 and 16.5: a table read with its last n lookups promoted: each of them is read as if its type were 7, and each of its subtables as if an Extension stood in front of it.
use Rattle.std.specs.Prelude.{ℕ, zero, suc, ◌+◌, ◌-◌, ◌*◌, List, [], ◌∷◌, ◌++◌, Bool, false, ◌&&◌, set, eqb, leb}
use Rattle.lists.specs.Lists.{pick}
use Rattle.model_orders.specs.Reading.{Reading, bytes}
use Rattle.gsub.specs.declared.Scope.{Scope}
use Rattle.gsub.specs.declared.Scope.TheVariants.{Single, Whole}
use Rattle.gsub.specs.declared.Kind.{Kind}
use Rattle.gsub.specs.declared.Kind.TheVariants.{Header, ScriptList, Script, LangSys, FeatureList, Feature, FeatureWith, FeatureParams, LookupList, Lookup, Extension, SingleSubst, MultipleSubst, Sequence, AlternateSubst, AlternateSet, LigatureSubst, LigatureSet, Ligature, SequenceContext, SequenceRuleSet, SequenceRule, ChainedSequenceContext, ChainedSequenceRuleSet, ChainedSequenceRule, ReverseChainSingleSubst, Coverage, ClassDef, FeatureVariations, ConditionSet, Condition, FeatureTableSubstitution}
pub use Rattle.gsub.specs.declared.Mode.{Mode}
pub use Rattle.gsub.specs.declared.Mode.TheVariants.{Plain as plain, Last as last, Promoted as promoted, New as new}
use Rattle.gsub.specs.Tables.{word_at}
use Rattle.gsub.specs.Ops.{Op, stop, ops_by}
use Rattle.gsub.specs.Meaning.{reading_by, deepest}

-- ---- the bytes that a table at p is read from, and its place in them

-- format 1, extensionLookupType, and an offset
abbrev pub new_extension : ℕ → List ℕ
new_extension type = 0 ∷ 1 ∷ 0 ∷ type ∷ 0 ∷ 0 ∷ 0 ∷ 1 ∷ []

abbrev pub extension_size : ℕ
extension_size = 8

-- one for each lookup type from 0 to 8
abbrev pub new_bytes : List ℕ
new_bytes =
    new_extension 0
    ++ new_extension 1
    ++ new_extension 2
    ++ new_extension 3
    ++ new_extension 4
    ++ new_extension 5
    ++ new_extension 6
    ++ new_extension 7
    ++ new_extension 8

abbrev pub bytes_in : List ℕ → Mode → ℕ → List ℕ
bytes_in b plain p = b
bytes_in b (last n) p = b
bytes_in b promoted p = set (set b p 0) (p + 1) 7
bytes_in b (new type) p = new_bytes

abbrev pub place_in : Mode → ℕ → ℕ
place_in plain p = p
place_in (last n) p = p
place_in promoted p = p
place_in (new type) p = extension_size * type

-- ---- its child of kind k, whose offset stands at a and leads to q

-- lookup i's offset stands at 2 + 2 * i of the LookupList
abbrev pub is_last : ℕ → List ℕ → ℕ → ℕ → Bool
is_last n b p a = leb (2 + 2 * (word_at b p - n)) a

-- which lookups are promoted, by their type: those that are read and stand behind no Extension
unfoldable pub promotes : Scope → ℕ → Bool
promotes Single type = eqb type 1
promotes Whole type = pick (eqb type 7) false (leb 1 type && leb type 8)

-- the LookupList, a Lookup of it, or any other table
unfoldable pub by_kind : Kind → Mode → (Scope → Mode) → Mode
by_kind (Header s) list lookup = plain
by_kind ScriptList list lookup = plain
by_kind Script list lookup = plain
by_kind LangSys list lookup = plain
by_kind (FeatureList s) list lookup = plain
by_kind Feature list lookup = plain
by_kind (FeatureWith p) list lookup = plain
by_kind (FeatureParams p) list lookup = plain
by_kind (LookupList s) list lookup = list
by_kind (Lookup s) list lookup = lookup s
by_kind (Extension s) list lookup = plain
by_kind SingleSubst list lookup = plain
by_kind MultipleSubst list lookup = plain
by_kind Sequence list lookup = plain
by_kind AlternateSubst list lookup = plain
by_kind AlternateSet list lookup = plain
by_kind LigatureSubst list lookup = plain
by_kind LigatureSet list lookup = plain
by_kind Ligature list lookup = plain
by_kind SequenceContext list lookup = plain
by_kind SequenceRuleSet list lookup = plain
by_kind SequenceRule list lookup = plain
by_kind ChainedSequenceContext list lookup = plain
by_kind ChainedSequenceRuleSet list lookup = plain
by_kind ChainedSequenceRule list lookup = plain
by_kind ReverseChainSingleSubst list lookup = plain
by_kind Coverage list lookup = plain
by_kind ClassDef list lookup = plain
by_kind FeatureVariations list lookup = plain
by_kind ConditionSet list lookup = plain
by_kind Condition list lookup = plain
by_kind FeatureTableSubstitution list lookup = plain

-- a lookup of type 7 is left alone, and one of a type that is not read is refused as it stands
abbrev pub child_mode : List ℕ → Mode → ℕ → ℕ → Kind → ℕ → Mode
child_mode b plain p a k q = plain
child_mode b (last n) p a k q = by_kind k (last n) (λ s. pick (is_last n b p a && promotes s (word_at b q)) promoted plain)
child_mode b promoted p a k q = new (word_at b p)
child_mode b (new type) p a k q = plain

-- a new Extension stands in front of the subtable at its own place
abbrev pub child_place : Mode → ℕ → ℕ → ℕ
child_place plain p q = q
child_place (last n) p q = q
child_place promoted p q = q
child_place (new type) p q = p

-- ---- its ops and its reading, at most d tables deep

unfoldable pub mode_ops : ℕ → List ℕ → Mode → Kind → ℕ → List Op
mode_ops zero b m k p = stop p ∷ []
mode_ops (suc d) b m k p = ops_by (λ a j q. mode_ops d b (child_mode b m p a j q) j (child_place m p q)) (bytes_in b m p) k (place_in m p)

unfoldable pub mode_reading : ℕ → List ℕ → Mode → Kind → ℕ → Reading
mode_reading zero b m k p = bytes []
mode_reading (suc d) b m k p = reading_by (λ a j q. mode_reading d b (child_mode b m p a j q) j (child_place m p q)) (bytes_in b m p) k (place_in m p)

-- ---- the whole table

abbrev pub trial_ops : Scope → ℕ → List ℕ → List Op
trial_ops s n b = mode_ops deepest b (last n) (Header s) 0

abbrev pub trial_reading : Scope → ℕ → List ℕ → Reading
trial_reading s n b = mode_reading deepest b (last n) (Header s) 0

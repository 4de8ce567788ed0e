-- docs/RULES.md, 11.2 and 16.2: the OpenType specification, "OpenType Layout Common Table Formats" and "GSUB - Glyph Substitution Table": each table as its fields in order.
use Rattle.std.specs.Prelude.{ℕ, ◌+◌, ◌*◌, List, [], ◌∷◌, get_or, eqb}
use Rattle.lists.specs.Lists.{pick}
use Rattle.big_endian.specs.BigEndian.{capacity}
use Rattle.gsub.specs.declared.Scope.{Scope}
use Rattle.gsub.specs.declared.Scope.TheVariants.{Single, Whole}
use Rattle.gsub.specs.declared.Params.TheVariants.{Size, StylisticSet, CharacterVariant}
use Rattle.gsub.specs.declared.Kind.{Kind}
use Rattle.gsub.specs.declared.Kind.TheVariants.{Header, ScriptList, Script, LangSys, FeatureList, Feature, FeatureWith, FeatureParams, LookupList, Lookup, Extension, SingleSubst, MultipleSubst, Sequence, AlternateSubst, AlternateSet, LigatureSubst, LigatureSet, Ligature, SequenceContext, SequenceRuleSet, SequenceRule, ChainedSequenceContext, ChainedSequenceRuleSet, ChainedSequenceRule, ReverseChainSingleSubst, Coverage, ClassDef, FeatureVariations, ConditionSet, Condition, FeatureTableSubstitution}
use Rattle.gsub.specs.declared.Field.{Field}
pub use Rattle.gsub.specs.Shapes.{uint16, uint24, tag, is, offset16, offset32, offset16_or_null, offset32_or_null, feature_offset, Times, once, count, before, marked, Run, one, many, fewer, by_count, if_marked, Shape, mark_filtering}
unfoldable pub use Rattle.gsub.specs.Shapes.{times, size, often, laid}

-- ---- common tables

-- majorVersion, minorVersion, scriptListOffset, featureListOffset, lookupListOffset
abbrev pub header10 : Scope → Shape
header10 s = one (is 1 ∷ is 0 ∷ offset16 ScriptList ∷ offset16 (FeatureList s) ∷ offset16 (LookupList s) ∷ []) ∷ []

-- and featureVariationsOffset, which may be NULL
abbrev pub header11 : Shape
header11 = one (is 1 ∷ is 1 ∷ offset16 ScriptList ∷ offset16 (FeatureList Whole) ∷ offset16 (LookupList Whole) ∷ offset32_or_null FeatureVariations ∷ []) ∷ []

-- scriptCount; scriptTag, scriptOffset
abbrev pub script_list : Shape
script_list = one (uint16 ∷ []) ∷ many (tag ∷ offset16 Script ∷ []) ∷ []

-- defaultLangSysOffset, langSysCount; langSysTag, langSysOffset
abbrev pub script : Shape
script = one (offset16_or_null LangSys ∷ uint16 ∷ []) ∷ many (tag ∷ offset16 LangSys ∷ []) ∷ []

-- lookupOrderOffset, requiredFeatureIndex, featureIndexCount; featureIndices
abbrev pub lang_sys : Shape
lang_sys = one (is 0 ∷ uint16 ∷ uint16 ∷ []) ∷ many (uint16 ∷ []) ∷ []

-- featureCount; featureTag, featureOffset
abbrev pub feature_list_of : Field → Shape
feature_list_of feature = one (uint16 ∷ []) ∷ many (tag ∷ feature ∷ []) ∷ []

-- featureParamsOffset, lookupIndexCount; lookupListIndices
abbrev pub feature_of : Field → Shape
feature_of params = one (params ∷ uint16 ∷ []) ∷ many (uint16 ∷ []) ∷ []

-- lookupCount; lookupOffsets
abbrev pub lookup_list : Scope → Shape
lookup_list s = one (uint16 ∷ []) ∷ many (offset16 (Lookup s) ∷ []) ∷ []

-- lookupType, lookupFlag, subTableCount; subtableOffsets; markFilteringSet
abbrev pub lookup_of : ℕ → Kind → Shape
lookup_of type k = one (is type ∷ uint16 ∷ uint16 ∷ []) ∷ many (offset16 k ∷ []) ∷ if_marked (uint16 ∷ []) ∷ []

-- coverageFormat, glyphCount; glyphArray
abbrev pub coverage1 : Shape
coverage1 = one (is 1 ∷ uint16 ∷ []) ∷ many (uint16 ∷ []) ∷ []

-- coverageFormat, rangeCount; startGlyphID, endGlyphID, startCoverageIndex
abbrev pub coverage2 : Shape
coverage2 = one (is 2 ∷ uint16 ∷ []) ∷ many (uint16 ∷ uint16 ∷ uint16 ∷ []) ∷ []

-- classFormat, startGlyphID, glyphCount; classValueArray
abbrev pub class_def1 : Shape
class_def1 = one (is 1 ∷ uint16 ∷ uint16 ∷ []) ∷ many (uint16 ∷ []) ∷ []

-- classFormat, classRangeCount; startGlyphID, endGlyphID, class
abbrev pub class_def2 : Shape
class_def2 = one (is 2 ∷ uint16 ∷ []) ∷ many (uint16 ∷ uint16 ∷ uint16 ∷ []) ∷ []

-- ---- feature parameters

-- designSize, subfamilyIdentifier, subfamilyNameID, rangeStart, rangeEnd
abbrev pub size_params : Shape
size_params = one (uint16 ∷ uint16 ∷ uint16 ∷ uint16 ∷ uint16 ∷ []) ∷ []

-- version, uiNameID
abbrev pub stylistic_set : Shape
stylistic_set = one (is 0 ∷ uint16 ∷ []) ∷ []

-- format, featUiLabelNameId, featUiTooltipTextNameId, sampleTextNameId, numNamedParameters, firstParamUiLabelNameId; charCount; characters
abbrev pub character_variant : Shape
character_variant = one (is 0 ∷ uint16 ∷ uint16 ∷ uint16 ∷ uint16 ∷ uint16 ∷ []) ∷ one (uint16 ∷ []) ∷ many (uint24 ∷ []) ∷ []

-- ---- feature variations

-- majorVersion, minorVersion, featureVariationRecordCount, whose upper half is zero; conditionSetOffset, featureTableSubstitutionOffset
abbrev pub feature_variations : Shape
feature_variations = one (is 1 ∷ is 0 ∷ is 0 ∷ uint16 ∷ []) ∷ many (offset32 ConditionSet ∷ offset32 FeatureTableSubstitution ∷ []) ∷ []

-- conditionCount; conditionOffsets
abbrev pub condition_set : Shape
condition_set = one (uint16 ∷ []) ∷ many (offset32 Condition ∷ []) ∷ []

-- format, axisIndex, filterRangeMinValue, filterRangeMaxValue
abbrev pub condition : Shape
condition = one (is 1 ∷ uint16 ∷ uint16 ∷ uint16 ∷ []) ∷ []

-- majorVersion, minorVersion, substitutionCount; featureIndex, alternateFeatureOffset
abbrev pub feature_table_substitution : Shape
feature_table_substitution = one (is 1 ∷ is 0 ∷ uint16 ∷ []) ∷ many (uint16 ∷ offset32 Feature ∷ []) ∷ []

-- ---- lookup type 1: single substitution

-- substFormat, coverageOffset, deltaGlyphID
abbrev pub single_subst1 : Shape
single_subst1 = one (is 1 ∷ offset16 Coverage ∷ uint16 ∷ []) ∷ []

-- substFormat, coverageOffset, glyphCount; substituteGlyphIDs
abbrev pub single_subst2 : Shape
single_subst2 = one (is 2 ∷ offset16 Coverage ∷ uint16 ∷ []) ∷ many (uint16 ∷ []) ∷ []

-- ---- types 2, 3 and 4: multiple, alternate and ligature substitution

-- substFormat, coverageOffset, a count of offsets; these
abbrev pub covered_list : Kind → Shape
covered_list k = one (is 1 ∷ offset16 Coverage ∷ uint16 ∷ []) ∷ many (offset16 k ∷ []) ∷ []

-- of a Sequence or an AlternateSet: glyphCount; glyph ids
abbrev pub glyph_list : Shape
glyph_list = one (uint16 ∷ []) ∷ many (uint16 ∷ []) ∷ []

-- of a set of ligatures or of rules: their count; their offsets
abbrev pub set_of : Kind → Shape
set_of k = one (uint16 ∷ []) ∷ many (offset16 k ∷ []) ∷ []

-- ligatureGlyph, componentCount; componentGlyphIDs, from the second on
abbrev pub ligature : Shape
ligature = one (uint16 ∷ uint16 ∷ []) ∷ fewer (uint16 ∷ []) ∷ []

-- ---- types 5 and 6: contextual and chained contexts substitution

-- format, coverageOffset, a count of rule sets; their offsets, which may be NULL
abbrev pub context1 : Kind → Shape
context1 k = one (is 1 ∷ offset16 Coverage ∷ uint16 ∷ []) ∷ many (offset16_or_null k ∷ []) ∷ []

-- format, coverageOffset, classDefOffset, classSeqRuleSetCount; classSeqRuleSetOffsets, which may be NULL
abbrev pub sequence_context2 : Shape
sequence_context2 = one (is 2 ∷ offset16 Coverage ∷ offset16 ClassDef ∷ uint16 ∷ []) ∷ many (offset16_or_null SequenceRuleSet ∷ []) ∷ []

-- format, glyphCount, seqLookupCount; coverageOffsets; sequenceIndex, lookupListIndex
abbrev pub sequence_context3 : Shape
sequence_context3 = one (is 3 ∷ uint16 ∷ uint16 ∷ []) ∷ by_count 2 0 (offset16 Coverage ∷ []) ∷ by_count 4 0 (uint16 ∷ uint16 ∷ []) ∷ []

-- glyphCount, seqLookupCount; inputSequence, from the second on; sequenceIndex, lookupListIndex
abbrev pub sequence_rule : Shape
sequence_rule = one (uint16 ∷ uint16 ∷ []) ∷ by_count 0 1 (uint16 ∷ []) ∷ by_count 2 0 (uint16 ∷ uint16 ∷ []) ∷ []

-- format, coverageOffset, backtrackClassDefOffset, inputClassDefOffset, lookaheadClassDefOffset, chainedClassSeqRuleSetCount; chainedClassSeqRuleSetOffsets.
-- The first, the third and the last may be NULL
abbrev pub chained_context2 : Shape
chained_context2 =
    one (is 2 ∷ offset16 Coverage ∷ offset16_or_null ClassDef ∷ offset16 ClassDef ∷ offset16_or_null ClassDef ∷ uint16 ∷ [])
    ∷ many (offset16_or_null ChainedSequenceRuleSet ∷ [])
    ∷ []

-- format, backtrackGlyphCount; backtrackCoverageOffsets; inputGlyphCount; inputCoverageOffsets; lookaheadGlyphCount; lookaheadCoverageOffsets;
-- seqLookupCount; sequenceIndex, lookupListIndex
abbrev pub chained_context3 : Shape
chained_context3 =
    one (is 3 ∷ uint16 ∷ [])
    ∷ many (offset16 Coverage ∷ [])
    ∷ one (uint16 ∷ [])
    ∷ many (offset16 Coverage ∷ [])
    ∷ one (uint16 ∷ [])
    ∷ many (offset16 Coverage ∷ [])
    ∷ one (uint16 ∷ [])
    ∷ many (uint16 ∷ uint16 ∷ [])
    ∷ []

-- backtrackGlyphCount; backtrackSequence; inputGlyphCount; inputSequence, from the second on; lookaheadGlyphCount; lookaheadSequence;
-- seqLookupCount; sequenceIndex, lookupListIndex
abbrev pub chained_rule : Shape
chained_rule =
    one (uint16 ∷ [])
    ∷ many (uint16 ∷ [])
    ∷ one (uint16 ∷ [])
    ∷ fewer (uint16 ∷ [])
    ∷ one (uint16 ∷ [])
    ∷ many (uint16 ∷ [])
    ∷ one (uint16 ∷ [])
    ∷ many (uint16 ∷ uint16 ∷ [])
    ∷ []

-- ---- type 7: extension substitution

-- substFormat, extensionLookupType, extensionOffset
abbrev pub extension_of : ℕ → Kind → Shape
extension_of type k = one (is 1 ∷ is type ∷ offset32 k ∷ []) ∷ []

-- ---- type 8: reverse chaining contextual single substitution

-- substFormat, coverageOffset, backtrackGlyphCount; backtrackCoverageOffsets; lookaheadGlyphCount; lookaheadCoverageOffsets; glyphCount; substituteGlyphIDs
abbrev pub reverse_subst : Shape
reverse_subst =
    one (is 1 ∷ offset16 Coverage ∷ uint16 ∷ [])
    ∷ many (offset16 Coverage ∷ [])
    ∷ one (uint16 ∷ [])
    ∷ many (offset16 Coverage ∷ [])
    ∷ one (uint16 ∷ [])
    ∷ many (uint16 ∷ [])
    ∷ []

-- ---- which of its shapes a table has: its only one; by its first number, a format or a lookup type, from 1 on; by its second, from this number on

pub data Formats : Type 0 where
  only : Shape → Formats
  by_first : List Shape → Formats
  by_second : ℕ → List Shape → Formats

-- the last one is for every other number too, which its own field refuses
unfoldable pub by_number : ℕ → ℕ → List Shape → Shape
by_number n i [] = []
by_number n i (s ∷ []) = s
by_number n i (s ∷ t ∷ ss) = pick (eqb n i) s (by_number n (i + 1) (t ∷ ss))

abbrev pub chosen : Formats → ℕ → ℕ → Shape
chosen (only s) first second = s
chosen (by_first ss) first second = by_number first 1 ss
chosen (by_second from ss) first second = by_number second from ss

-- of every lookup type
abbrev pub lookups : List Shape
lookups =
    lookup_of 1 SingleSubst
    ∷ lookup_of 2 MultipleSubst
    ∷ lookup_of 3 AlternateSubst
    ∷ lookup_of 4 LigatureSubst
    ∷ lookup_of 5 SequenceContext
    ∷ lookup_of 6 ChainedSequenceContext
    ∷ lookup_of 7 (Extension Whole)
    ∷ lookup_of 8 ReverseChainSingleSubst
    ∷ []

-- of every type but 7
abbrev pub extensions : List Shape
extensions =
    extension_of 1 SingleSubst
    ∷ extension_of 2 MultipleSubst
    ∷ extension_of 3 AlternateSubst
    ∷ extension_of 4 LigatureSubst
    ∷ extension_of 5 SequenceContext
    ∷ extension_of 6 ChainedSequenceContext
    ∷ extension_of 8 ReverseChainSingleSubst
    ∷ []

unfoldable pub formats : Kind → Formats
formats (Header Single) = only (header10 Single)
formats (Header Whole) = by_second 0 (header10 Whole ∷ header11 ∷ [])
formats ScriptList = only script_list
formats Script = only script
formats LangSys = only lang_sys
formats (FeatureList Single) = only (feature_list_of (offset16 Feature))
formats (FeatureList Whole) = only (feature_list_of feature_offset)
formats Feature = only (feature_of (is 0))
formats (FeatureWith p) = only (feature_of (offset16_or_null (FeatureParams p)))
formats (FeatureParams Size) = only size_params
formats (FeatureParams StylisticSet) = only stylistic_set
formats (FeatureParams CharacterVariant) = only character_variant
formats (LookupList s) = only (lookup_list s)
formats (Lookup Single) = by_first (lookup_of 1 SingleSubst ∷ lookup_of 7 (Extension Single) ∷ [])
formats (Lookup Whole) = by_first lookups
formats (Extension Single) = only (extension_of 1 SingleSubst)
formats (Extension Whole) = by_second 1 extensions
formats SingleSubst = by_first (single_subst1 ∷ single_subst2 ∷ [])
formats MultipleSubst = only (covered_list Sequence)
formats Sequence = only glyph_list
formats AlternateSubst = only (covered_list AlternateSet)
formats AlternateSet = only glyph_list
formats LigatureSubst = only (covered_list LigatureSet)
formats LigatureSet = only (set_of Ligature)
formats Ligature = only ligature
formats SequenceContext = by_first (context1 SequenceRuleSet ∷ sequence_context2 ∷ sequence_context3 ∷ [])
formats SequenceRuleSet = only (set_of SequenceRule)
formats SequenceRule = only sequence_rule
formats ChainedSequenceContext = by_first (context1 ChainedSequenceRuleSet ∷ chained_context2 ∷ chained_context3 ∷ [])
formats ChainedSequenceRuleSet = only (set_of ChainedSequenceRule)
formats ChainedSequenceRule = only chained_rule
formats ReverseChainSingleSubst = only reverse_subst
formats Coverage = by_first (coverage1 ∷ coverage2 ∷ [])
formats ClassDef = by_first (class_def1 ∷ class_def2 ∷ [])
formats FeatureVariations = only feature_variations
formats ConditionSet = only condition_set
formats Condition = only condition
formats FeatureTableSubstitution = only feature_table_substitution

abbrev pub shape : Kind → ℕ → ℕ → Shape
shape k first second = chosen (formats k) first second

-- ---- a table's fields

unfoldable pub fields_of : Kind → (ℕ → ℕ) → List Field
fields_of k word = laid word 0 (shape k (word 0) (word 2))

-- the 16-bit number at a place of a slice, zeros past its end
abbrev pub word_at : List ℕ → ℕ → ℕ
word_at b at = get_or b at 0 * 256 + get_or b (at + 1) 0

-- the 32-bit number
abbrev pub long_at : List ℕ → ℕ → ℕ
long_at b at = word_at b at * capacity 2 + word_at b (at + 2)

-- the fields of the table of kind k at p
abbrev pub fields_at : List ℕ → Kind → ℕ → List Field
fields_at b k p = fields_of k (λ i. word_at b (p + i))

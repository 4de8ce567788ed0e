-- What holds of every table: a test of each format of each kind, computed once.
use mathlib.Core.Path.{◌≡◌, refl}
use Prim.Native.Nat.{ℕ, zero, suc, ◌+◌}
use mathlib.Core.List.{List, [], ◌∷◌}
use mathlib.Core.Bool.{Bool, true, false, ◌&&◌}
use native.Mathlib.Omega.{arith}
use lib.ListN.{get_or}
use lib.Dec.{eqb}
use Rattle.lists.specs.Lists.{pick}
use Rattle.lists.proofs.Same.{and_left, and_right}
use Rattle.gsub.specs.declared.Scope.TheVariants.{Single, Whole}
use Rattle.gsub.specs.declared.Params.TheVariants.{Size, StylisticSet, CharacterVariant}
use Rattle.gsub.specs.declared.Kind.{Kind}
use Rattle.gsub.specs.declared.Kind.TheVariants.{Coverage, Header, ScriptList, Script, LangSys, FeatureList, Feature, FeatureWith, FeatureParams, LookupList, Lookup, Extension, SingleSubst, MultipleSubst, Sequence, AlternateSubst, AlternateSet, LigatureSubst, LigatureSet, Ligature, SequenceContext, SequenceRuleSet, SequenceRule, ChainedSequenceContext, ChainedSequenceRuleSet, ChainedSequenceRule, ReverseChainSingleSubst, ClassDef, FeatureVariations, ConditionSet, Condition, FeatureTableSubstitution}
use Rattle.gsub.specs.Tables.{Shape, Formats, only, by_first, by_second, by_number, chosen, formats, shape}

-- ---- every kind

unfoldable pub kinds : List Kind
kinds =
    Coverage
    ∷ (Header Single)
    ∷ (Header Whole)
    ∷ ScriptList
    ∷ Script
    ∷ LangSys
    ∷ (FeatureList Single)
    ∷ (FeatureList Whole)
    ∷ Feature
    ∷ (FeatureWith Size)
    ∷ (FeatureWith StylisticSet)
    ∷ (FeatureWith CharacterVariant)
    ∷ (FeatureParams Size)
    ∷ (FeatureParams StylisticSet)
    ∷ (FeatureParams CharacterVariant)
    ∷ (LookupList Single)
    ∷ (LookupList Whole)
    ∷ (Lookup Single)
    ∷ (Lookup Whole)
    ∷ (Extension Single)
    ∷ (Extension Whole)
    ∷ SingleSubst
    ∷ MultipleSubst
    ∷ Sequence
    ∷ AlternateSubst
    ∷ AlternateSet
    ∷ LigatureSubst
    ∷ LigatureSet
    ∷ Ligature
    ∷ SequenceContext
    ∷ SequenceRuleSet
    ∷ SequenceRule
    ∷ ChainedSequenceContext
    ∷ ChainedSequenceRuleSet
    ∷ ChainedSequenceRule
    ∷ ReverseChainSingleSubst
    ∷ ClassDef
    ∷ FeatureVariations
    ∷ ConditionSet
    ∷ Condition
    ∷ FeatureTableSubstitution
    ∷ []

record Listed (k : Kind) : Type 0 where
  number : ℕ
  there : get_or kinds number Coverage ≡ k

listed : (k : Kind) → Listed k
unfolding kinds
listed Coverage = record { number = 0; there = refl }
listed (Header Single) = record { number = 1; there = refl }
listed (Header Whole) = record { number = 2; there = refl }
listed ScriptList = record { number = 3; there = refl }
listed Script = record { number = 4; there = refl }
listed LangSys = record { number = 5; there = refl }
listed (FeatureList Single) = record { number = 6; there = refl }
listed (FeatureList Whole) = record { number = 7; there = refl }
listed Feature = record { number = 8; there = refl }
listed (FeatureWith Size) = record { number = 9; there = refl }
listed (FeatureWith StylisticSet) = record { number = 10; there = refl }
listed (FeatureWith CharacterVariant) = record { number = 11; there = refl }
listed (FeatureParams Size) = record { number = 12; there = refl }
listed (FeatureParams StylisticSet) = record { number = 13; there = refl }
listed (FeatureParams CharacterVariant) = record { number = 14; there = refl }
listed (LookupList Single) = record { number = 15; there = refl }
listed (LookupList Whole) = record { number = 16; there = refl }
listed (Lookup Single) = record { number = 17; there = refl }
listed (Lookup Whole) = record { number = 18; there = refl }
listed (Extension Single) = record { number = 19; there = refl }
listed (Extension Whole) = record { number = 20; there = refl }
listed SingleSubst = record { number = 21; there = refl }
listed MultipleSubst = record { number = 22; there = refl }
listed Sequence = record { number = 23; there = refl }
listed AlternateSubst = record { number = 24; there = refl }
listed AlternateSet = record { number = 25; there = refl }
listed LigatureSubst = record { number = 26; there = refl }
listed LigatureSet = record { number = 27; there = refl }
listed Ligature = record { number = 28; there = refl }
listed SequenceContext = record { number = 29; there = refl }
listed SequenceRuleSet = record { number = 30; there = refl }
listed SequenceRule = record { number = 31; there = refl }
listed ChainedSequenceContext = record { number = 32; there = refl }
listed ChainedSequenceRuleSet = record { number = 33; there = refl }
listed ChainedSequenceRule = record { number = 34; there = refl }
listed ReverseChainSingleSubst = record { number = 35; there = refl }
listed ClassDef = record { number = 36; there = refl }
listed FeatureVariations = record { number = 37; there = refl }
listed ConditionSet = record { number = 38; there = refl }
listed Condition = record { number = 39; there = refl }
listed FeatureTableSubstitution = record { number = 40; there = refl }

module _ (test : Kind → Bool) where
  unfoldable pub of_all : List Kind → Bool
  of_all [] = true
  of_all (k ∷ ks) = test k && of_all ks

  all-at : (ks : List Kind) (i : ℕ) (d : Kind) → of_all ks ≡ true → test d ≡ true → test (get_or ks i d) ≡ true
  unfolding of_all
  all-at [] i d h e = e
  all-at (k ∷ ks) zero d h e = and_left (test k) (of_all ks) h
  all-at (k ∷ ks) (suc i) d h e = all-at ks i d (and_right (test k) (of_all ks) h) e

  unfoldable pub every_kind : Bool
  every_kind = of_all kinds

  pub every-kind : every_kind ≡ true → (k : Kind) → test k ≡ true
  unfolding every_kind kinds of_all
  every-kind h k = let l = listed k in rw l.there at (all-at kinds l.number Coverage h (and_left (test Coverage) _ h))

-- ---- every format

module _ (test : Shape → Bool) where
  -- of one at least
  unfoldable pub each_shape : List Shape → Bool
  each_shape [] = false
  each_shape (s ∷ []) = test s
  each_shape (s ∷ t ∷ ss) = test s && each_shape (t ∷ ss)

  pub by-number : (n i : ℕ) (ss : List Shape) → each_shape ss ≡ true → test (by_number n i ss) ≡ true
  unfolding each_shape by_number
  by-number n i [] h = absurd (let z : ◌≡◌ {A = ℕ} 0 1 = cc in omega arith)
  by-number n i (s ∷ []) h = h
  by-number n i (s ∷ t ∷ ss) h = go (eqb n i) (and_left (test s) _ h) (by-number n (i + 1) (t ∷ ss) (and_right (test s) _ h))
    where
      go : (b : Bool) → test s ≡ true → test (by_number n (i + 1) (t ∷ ss)) ≡ true → test (pick b s (by_number n (i + 1) (t ∷ ss))) ≡ true
      go true here later = here
      go false here later = later

  abbrev pub each_format : Formats → Bool
  each_format (only s) = test s
  each_format (by_first ss) = each_shape ss
  each_format (by_second from ss) = each_shape ss

  pub of-shape : (f : Formats) (first second : ℕ) → each_format f ≡ true → test (chosen f first second) ≡ true
  of-shape (only s) first second h = h
  of-shape (by_first ss) first second h = by-number first 1 ss h
  of-shape (by_second from ss) first second h = by-number second from ss h

-- of every table
pub every-shape : (test : Kind → Shape → Bool) → every_kind (λ k. each_format (test k) (formats k)) ≡ true → (k : Kind) (first second : ℕ) → test k (shape k first second) ≡ true
every-shape test h k first second = of-shape (test k) (formats k) first second (every-kind (λ k. each_format (test k) (formats k)) h k)

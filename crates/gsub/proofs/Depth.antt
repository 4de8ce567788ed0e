-- Tables lie at most seven deep: no read ends for want of depth.
use mathlib.Core.Path.{◌≡◌, refl, ap, ◌∙◌}
use Prim.Native.Nat.{ℕ, zero, suc, ◌+◌, ◌-◌, ◌≤◌}
use mathlib.Core.List.{List, [], ◌∷◌, ◌++◌}
use mathlib.Core.Bool.{Bool, true, false, ◌&&◌}
use native.Mathlib.Omega.{arith}
use borrow.Author.Tests.{leb-true, le-leb}
use lib.ListN.{length}
use lib.Dec.{eqb, leb}
use Rattle.lists.specs.Lists.{pick}
use Rattle.lists.proofs.Same.{and_left, and_right}
use Rattle.gsub.specs.declared.Scope.{Scope}
use Rattle.gsub.specs.declared.Params.TheVariants.{Size, StylisticSet, CharacterVariant}
use Rattle.gsub.specs.declared.Kind.{Kind}
use Rattle.gsub.specs.declared.Kind.TheVariants.{Header, ScriptList, Script, LangSys, FeatureList, Feature, FeatureWith, FeatureParams, LookupList, Lookup, Extension, SingleSubst, MultipleSubst, Sequence, AlternateSubst, AlternateSet, LigatureSubst, LigatureSet, Ligature, SequenceContext, SequenceRuleSet, SequenceRule, ChainedSequenceContext, ChainedSequenceRuleSet, ChainedSequenceRule, ReverseChainSingleSubst, Coverage, ClassDef, FeatureVariations, ConditionSet, Condition, FeatureTableSubstitution}
use Rattle.gsub.specs.declared.Rule.{Rule}
use Rattle.gsub.specs.declared.Rule.TheVariants.{Any, Only, To, ToOrNull, ToFeature}
use Rattle.gsub.specs.declared.Field.{Field}
use Rattle.gsub.specs.Tables.{Run, formats, shape, fields_of, fields_at}
use Rattle.gsub.specs.Features.{stylistic, variant, size1, size2, two_digits, feature_by}
use Rattle.gsub.specs.Ops.{Act, keep, follow, refuse, value_at, feature_at, by_rule, act, Op, begin, end, act_ops, fields_ops, table_ops}
use Rattle.gsub.specs.Meaning.{deepest}
use Rattle.gsub.specs.Promote.{Mode, plain, bytes_in, place_in, child_mode, child_place, mode_ops}
use Rattle.gsub.proofs.Plain.{plain-ops}
use Rattle.gsub.proofs.Formats.{kinds, of_all, every_kind, every-kind, each_shape, every-shape}
use Rattle.gsub.proofs.Fields.{both, all_fields, all_runs, all_laid, fields_join}

-- how many tables deep one goes, itself included
abbrev pub rank : Kind → ℕ
rank (Header s) = 7
rank ScriptList = 3
rank Script = 2
rank LangSys = 1
rank (FeatureList s) = 3
rank Feature = 1
rank (FeatureWith p) = 2
rank (FeatureParams p) = 1
rank (LookupList s) = 6
rank (Lookup s) = 5
rank (Extension s) = 4
rank SingleSubst = 2
rank MultipleSubst = 2
rank Sequence = 1
rank AlternateSubst = 2
rank AlternateSet = 1
rank LigatureSubst = 3
rank LigatureSet = 2
rank Ligature = 1
rank SequenceContext = 3
rank SequenceRuleSet = 2
rank SequenceRule = 1
rank ChainedSequenceContext = 3
rank ChainedSequenceRuleSet = 2
rank ChainedSequenceRule = 1
rank ReverseChainSingleSubst = 2
rank Coverage = 1
rank ClassDef = 1
rank FeatureVariations = 3
rank ConditionSet = 2
rank Condition = 1
rank FeatureTableSubstitution = 2

pub some-rank : (k : Kind) → 1 ≤ rank k
unfolding every_kind of_all kinds
some-rank k = leb-true 1 (rank k) (every-kind (λ k. leb 1 (rank k)) refl k)

-- of a Feature, whatever its tag
abbrev feature_rank : ℕ
feature_rank = 2

feature-rank : (first second : ℕ) → rank (feature_by first second) ≤ feature_rank
unfolding feature_by
feature-rank first second = go (eqb first stylistic && (leb 1 (two_digits second) && leb (two_digits second) 20)) (eqb first variant && leb 1 (two_digits second)) (eqb first size1 && eqb second size2)
  where
    go : (a b c : Bool) → rank (pick a (FeatureWith StylisticSet) (pick b (FeatureWith CharacterVariant) (pick c (FeatureWith Size) Feature))) ≤ feature_rank
    go true b c = omega arith
    go false true c = omega arith
    go false false true = omega arith
    go false false false = omega arith

-- an offset leads to a table of at most n
abbrev pub within : ℕ → Rule → Bool
within n Any = true
within n (Only x) = true
within n (To k) = leb (rank k) n
within n (ToOrNull k) = leb (rank k) n
within n ToFeature = leb feature_rank n

abbrev pub all_within : ℕ → List Field → Bool
all_within n fs = all_fields (λ (f : Field). within n f.rule) fs

abbrev runs_within : ℕ → List Run → Bool
runs_within n rs = all_runs (all_within n) rs

-- every table's offsets lead to lower ranks
all-lower : (k : Kind) (first second : ℕ) → runs_within (rank k - 1) (shape k first second) ≡ true
unfolding every_kind of_all kinds each_shape formats all_runs
all-lower = every-shape (λ k. runs_within (rank k - 1)) refl

pub within-fields : (k : Kind) (w : ℕ → ℕ) (n : ℕ) → suc n ≡ rank k → all_within n (fields_of k w) ≡ true
unfolding fields_of
within-fields k w n e = let f : n ≡ rank k - 1 = omega arith in rw f (all_laid (all_within (rank k - 1)) (fields_join (λ (f : Field). within (rank k - 1) f.rule)) w (shape k (w 0) (w 2)) 0 (all-lower k (w 0) (w 2)))

-- ---- a field that is followed

-- an offset that is followed leads to its own kind
pub led : (t : Bool) (y : Act) (j k : Kind) → (y ≡ follow k → ⊥) → pick t y (follow j) ≡ follow k → j ≡ k
led true y j k n e = absurd (n e)
led false y j k n e = cc

rule-within : (n : ℕ) (r : Rule) (h : Kind) (v : ℕ) (k : Kind) → rank h ≤ feature_rank → within n r ≡ true → by_rule r h v ≡ follow k → rank k ≤ n
unfolding by_rule
rule-within n Any h v k f w e = absurd (let z : ◌≡◌ {A = ℕ} 0 1 = cc in omega arith)
rule-within n (Only x) h v k f w e = absurd (go (eqb v x) e)
  where
    go : (t : Bool) → pick t keep refuse ≡ follow k → ⊥
    go true e = let z : ◌≡◌ {A = ℕ} 0 1 = cc in omega arith
    go false e = let z : ◌≡◌ {A = ℕ} 0 1 = cc in omega arith
rule-within n (To j) h v k f w e = rw (led (eqb v 0) refuse j k (λ x. let z : ◌≡◌ {A = ℕ} 0 1 = cc in omega arith) e) at (leb-true (rank j) n w)
rule-within n (ToOrNull j) h v k f w e = rw (led (eqb v 0) keep j k (λ x. let z : ◌≡◌ {A = ℕ} 0 1 = cc in omega arith) e) at (leb-true (rank j) n w)
rule-within n ToFeature h v k f w e =
    let q : rank h ≤ n = omega (arith, leb-true feature_rank n w) in
    rw (led (eqb v 0) refuse h k (λ x. let z : ◌≡◌ {A = ℕ} 0 1 = cc in omega arith) e) at q

pub act-within : (n : ℕ) (b : List ℕ) (at : ℕ) (f : Field) (k : Kind) → within n f.rule ≡ true → act b at f ≡ follow k → rank k ≤ n
unfolding act
act-within n b at f k h e = go (leb (at + f.width) (length b)) e
  where
    go : (t : Bool) → pick t (by_rule f.rule (feature_at b at) (value_at b at f.width)) refuse ≡ follow k → rank k ≤ n
    go true e = rule-within n f.rule (feature_at b at) (value_at b at f.width) k (feature-rank _ _) h e
    go false e = absurd (let z : ◌≡◌ {A = ℕ} 0 1 = cc in omega arith)

rule-more : (n m : ℕ) (r : Rule) → n ≤ m → within n r ≡ true → within m r ≡ true
rule-more n m Any l h = refl
rule-more n m (Only x) l h = refl
rule-more n m (To k) l h = le-leb (rank k) m (omega (arith, leb-true (rank k) n h))
rule-more n m (ToOrNull k) l h = le-leb (rank k) m (omega (arith, leb-true (rank k) n h))
rule-more n m ToFeature l h = le-leb feature_rank m (omega (arith, leb-true feature_rank n h))

pub more_within : (n m : ℕ) (fs : List Field) → n ≤ m → all_within n fs ≡ true → all_within m fs ≡ true
more_within n m [] l h = refl
more_within n m (f ∷ fs) l h = both (rule-more n m f.rule l (and_left (within n f.rule) _ h)) (more_within n m fs l (and_right (within n f.rule) _ h))

-- ---- one table deeper changes nothing

module _ (b : List ℕ) where
  module _ (ops_a ops_b : ℕ → Kind → ℕ → List Op) (n p : ℕ) (same : (a : ℕ) (k : Kind) (q : ℕ) → rank k ≤ n → ops_a a k q ≡ ops_b a k q) where
    same-act : (a : ℕ) (f : Field) → within n f.rule ≡ true → (y : Act) → act b (p + a) f ≡ y → act_ops (ops_a a) b p a f.width y ≡ act_ops (ops_b a) b p a f.width y
    unfolding act_ops
    same-act a f h keep e = refl
    same-act a f h (follow k) e = rw (same a k (p + value_at b (p + a) f.width) (act-within n b (p + a) f k h e))
    same-act a f h refuse e = refl

    same-fields : (fs : List Field) (a : ℕ) → all_within n fs ≡ true → fields_ops ops_a b p a fs ≡ fields_ops ops_b b p a fs
    unfolding fields_ops
    same-fields [] a h = refl
    same-fields (f ∷ fs) a h =
        rw (same-act a f (and_left (within n f.rule) _ h) (act b (p + a) f) refl, same-fields fs (a + f.width) (and_right (within n f.rule) _ h))

-- in any mode, since a table has the fields of its kind in each
pub mode-deeper : (n : ℕ) (b : List ℕ) (m : Mode) (k : Kind) (p : ℕ) → rank k ≤ n → mode_ops (suc n) b m k p ≡ mode_ops n b m k p
unfolding mode_ops
mode-deeper zero b m k p h = absurd (omega (arith, some-rank k))
mode-deeper (suc n) b m k p h =
    let r : ℕ = rank k - 1 in
    let e : suc r ≡ rank k = omega (arith, some-rank k) in
    let l = bytes_in b m p in
    let fs = fields_at l k (place_in m p) in
    ap (λ ops. begin ∷ (ops ++ (end ∷ []))) (same-fields l _ _ n (place_in m p) (λ a j q. mode-deeper n b (child_mode b m p a j q) j (child_place m p q)) fs 0
    (more_within r n fs (omega arith) (within-fields k _ r e)))

pub deeper : (b : List ℕ) (n : ℕ) (k : Kind) (p : ℕ) → rank k ≤ n → table_ops (suc n) b k p ≡ table_ops n b k p
deeper b n k p h = rw (plain-ops (suc n) b, plain-ops n b) at (mode-deeper n b plain k p h)

-- however deep a read of the header may go, it does the same
pub mode-deep-enough : (s : Scope) (b : List ℕ) (m : Mode) (n p : ℕ) → mode_ops (n + deepest) b m (Header s) p ≡ mode_ops deepest b m (Header s) p
mode-deep-enough s b m zero p = refl
mode-deep-enough s b m (suc n) p =
    let e : suc n + deepest ≡ suc (n + deepest) = omega arith in
    rw e (mode-deeper (n + deepest) b m (Header s) p (omega arith) ∙ mode-deep-enough s b m n p)

pub deep-enough : (s : Scope) (b : List ℕ) (n p : ℕ) → table_ops (n + deepest) b (Header s) p ≡ table_ops deepest b (Header s) p
deep-enough s b n p = rw (plain-ops (n + deepest) b, plain-ops deepest b) at (mode-deep-enough s b plain n p)

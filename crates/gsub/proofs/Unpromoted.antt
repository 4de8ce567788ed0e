-- A table of which no lookup is promoted is read as it stands.
use mathlib.Core.Path.{◌≡◌, refl, ap, ◌∙◌}
use Prim.Native.Nat.{ℕ, zero, suc, ◌+◌, ◌-◌, ◌*◌, ◌≤◌}
use mathlib.Core.List.{List, [], ◌∷◌, ◌++◌}
use mathlib.Core.Bool.{Bool, true, false}
use native.Mathlib.Omega.{arith}
use native.Mathlib.Nat.{add-zero, sub-zero}
use borrow.Author.Tests.{lt-leb}
use lib.ListN.{length}
use lib.Dec.{eqb, leb}
use Rattle.lists.specs.Lists.{pick}
use Rattle.gsub.specs.declared.Scope.{Scope}
use Rattle.gsub.specs.declared.Scope.TheVariants.{Single, Whole}
use Rattle.gsub.specs.declared.Kind.{Kind}
use Rattle.gsub.specs.declared.Kind.TheVariants.{Header, ScriptList, FeatureList, LookupList, Lookup, FeatureVariations}
use Rattle.gsub.specs.declared.Rule.{Rule}
use Rattle.gsub.specs.declared.Rule.TheVariants.{To, ToOrNull}
use Rattle.gsub.specs.declared.Field.{Field}
use Rattle.gsub.specs.Tables.{uint16, is, offset16, offset32_or_null, header10, header11, Shape, by_number, formats, often, laid, times, size, fields_of, fields_at, word_at}
use Rattle.gsub.specs.Ops.{Act, keep, follow, refuse, value_at, feature_at, by_rule, act, Op, act_ops, fields_ops, table_ops}
use Rattle.gsub.specs.Meaning.{deepest}
use Rattle.gsub.specs.Promote.{last, by_kind, is_last, child_mode, mode_ops, trial_ops}
use Rattle.gsub.proofs.Plain.{plain-ops}
use Rattle.gsub.proofs.Settled.{plain_rule}
use Rattle.gsub.proofs.Again.{plain-kept}
use Rattle.gsub.proofs.Depth.{led}

-- a field judged y, of which only a child's ops may differ
same-act : (f g : Kind → ℕ → List Op) (b : List ℕ) (p a w : ℕ) (y : Act) → ((k : Kind) → y ≡ follow k → (q : ℕ) → f k q ≡ g k q) → act_ops f b p a w y ≡ act_ops g b p a w y
unfolding act_ops
same-act f g b p a w keep h = refl
same-act f g b p a w (follow k) h = rw (h k refl (p + value_at b (p + a) w))
same-act f g b p a w refuse h = refl

-- one that is no offset is not followed
plain-same : (f g : Kind → ℕ → List Op) (b : List ℕ) (p a : ℕ) (x : Field) → plain_rule x.rule ≡ true → act_ops f b p a x.width (act b (p + a) x) ≡ act_ops g b p a x.width (act b (p + a) x)
plain-same f g b p a x h = same-act f g b p a x.width (act b (p + a) x) (λ k e. absurd (plain-kept b (p + a) x h k e))

-- and an offset to tables of kind k leads to one
abbrev Leads : Rule → Kind → Type 0
Leads r k = (h : Kind) (v : ℕ) (j : Kind) → by_rule r h v ≡ follow j → k ≡ j

to-leads : (k : Kind) → Leads (To k) k
unfolding by_rule
to-leads k h v j e = led (eqb v 0) refuse k j (λ z. let y : ◌≡◌ {A = ℕ} 0 1 = cc in omega arith) e

null-leads : (k : Kind) → Leads (ToOrNull k) k
unfolding by_rule
null-leads k h v j e = led (eqb v 0) keep k j (λ z. let y : ◌≡◌ {A = ℕ} 0 1 = cc in omega arith) e

offset-same : (f g : Kind → ℕ → List Op) (b : List ℕ) (p a : ℕ) (x : Field) (k : Kind) → Leads x.rule k → ((q : ℕ) → f k q ≡ g k q) → act_ops f b p a x.width (act b (p + a) x) ≡ act_ops g b p a x.width (act b (p + a) x)
unfolding act
offset-same f g b p a x k l h = same-act f g b p a x.width (act b (p + a) x) (λ j e. let same : k ≡ j = go (leb (p + a + x.width) (length b)) j e in rw same at h)
  where
    go : (t : Bool) (j : Kind) → pick t (by_rule x.rule (feature_at b (p + a)) (value_at b (p + a) x.width)) refuse ≡ follow j → k ≡ j
    go true j e = l _ _ j e
    go false j e = absurd (let z : ◌≡◌ {A = ℕ} 0 1 = cc in omega arith)

module _ (s : Scope) (d : ℕ) (b : List ℕ) where
  abbrev lasts : ℕ → ℕ → Kind → ℕ → List Op
  lasts p a k q = mode_ops d b (child_mode b (last 0) p a k q) k q

  -- n offsets from a on; one that stands in the list is none of the last 0
  offsets-same : (p n a : ℕ) → a + 2 * n ≤ 2 + 2 * word_at b p
      → fields_ops (lasts p) b p a (times n (offset16 (Lookup s) ∷ []) ++ []) ≡ fields_ops (λ a. table_ops d b) b p a (times n (offset16 (Lookup s) ∷ []) ++ [])
  unfolding fields_ops times by_kind
  offsets-same p zero a h = refl
  offsets-same p (suc n) a h =
      let e : is_last 0 b p a ≡ false = lt-leb (2 + 2 * (word_at b p - 0)) a (omega arith) in
      rw (offset-same (lasts p a) (table_ops d b) b p a (offset16 (Lookup s)) (Lookup s) (to-leads (Lookup s)) (λ q. rw (e, plain-ops d b)), offsets-same p n (a + 2) (omega arith))

  list_same : (p : ℕ) → mode_ops (suc d) b (last 0) (LookupList s) p ≡ table_ops (suc d) b (LookupList s) p
  unfolding mode_ops table_ops fields_ops fields_of formats laid often times size
  list_same p =
      let e : word_at b (p + 0) - 0 ≡ word_at b p = ap (λ z. word_at b z - 0) (add-zero p) ∙ sub-zero (word_at b p) in
      rw (e, offsets-same p (word_at b p) 2 (omega arith), plain-same (lasts p 0) (table_ops d b) b p 0 uint16 refl)

module _ (d : ℕ) (b : List ℕ) where
  abbrev under : Kind → ℕ → List Op
  under = table_ops (suc d) b

  abbrev over : ℕ → Kind → ℕ → List Op
  over = lasts Single (suc d) b 0

  abbrev SameFields : List Field → Type 0
  SameFields fs = fields_ops over b 0 0 fs ≡ fields_ops (λ a. under) b 0 0 fs

  header10-same : (s : Scope) → SameFields (is 1 ∷ is 0 ∷ offset16 ScriptList ∷ offset16 (FeatureList s) ∷ offset16 (LookupList s) ∷ [])
  unfolding fields_ops by_kind
  header10-same s =
      rw (
        plain-same (over 0) under b 0 0 (is 1) refl,
        plain-same (over 2) under b 0 2 (is 0) refl,
        offset-same (over 4) under b 0 4 (offset16 ScriptList) ScriptList (to-leads ScriptList) (λ q. rw (plain-ops (suc d) b)),
        offset-same (over 6) under b 0 6 (offset16 (FeatureList s)) (FeatureList s) (to-leads (FeatureList s)) (λ q. rw (plain-ops (suc d) b)),
        offset-same (over 8) under b 0 8 (offset16 (LookupList s)) (LookupList s) (to-leads (LookupList s)) (list_same s d b),
      )

  header11-same : SameFields (is 1 ∷ is 1 ∷ offset16 ScriptList ∷ offset16 (FeatureList Whole) ∷ offset16 (LookupList Whole) ∷ offset32_or_null FeatureVariations ∷ [])
  unfolding fields_ops by_kind
  header11-same =
      rw (
        plain-same (over 0) under b 0 0 (is 1) refl,
        plain-same (over 2) under b 0 2 (is 1) refl,
        offset-same (over 4) under b 0 4 (offset16 ScriptList) ScriptList (to-leads ScriptList) (λ q. rw (plain-ops (suc d) b)),
        offset-same (over 6) under b 0 6 (offset16 (FeatureList Whole)) (FeatureList Whole) (to-leads (FeatureList Whole)) (λ q. rw (plain-ops (suc d) b)),
        offset-same (over 8) under b 0 8 (offset16 (LookupList Whole)) (LookupList Whole) (to-leads (LookupList Whole)) (list_same Whole d b),
        offset-same (over 10) under b 0 10 (offset32_or_null FeatureVariations) FeatureVariations (null-leads FeatureVariations) (λ q. rw (plain-ops (suc d) b)),
      )

  -- by minorVersion
  two-same : (t : Bool) (m n : Shape) → SameFields (laid (λ i. word_at b (0 + i)) 0 m) → SameFields (laid (λ i. word_at b (0 + i)) 0 n) → SameFields (laid (λ i. word_at b (0 + i)) 0 (pick t m n))
  two-same true m n h k = h
  two-same false m n h k = k

  fields-same : (s : Scope) → SameFields (fields_at b (Header s) 0)
  unfolding fields_of formats by_number laid often times
  fields-same Single = header10-same Single
  fields-same Whole = two-same (eqb (word_at b (0 + 2)) 0) (header10 Whole) header11 (header10-same Whole) header11-same

  header-same : (s : Scope) → mode_ops (suc (suc d)) b (last 0) (Header s) 0 ≡ table_ops (suc (suc d)) b (Header s) 0
  unfolding mode_ops table_ops
  header-same s = rw (fields-same s)

pub none-promoted : (s : Scope) (b : List ℕ) → trial_ops s 0 b ≡ table_ops deepest b (Header s) 0
none-promoted s b = header-same 5 b s

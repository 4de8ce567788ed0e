-- A read stops exactly at the fields that are refused, and tells the earliest refusal.
use mathlib.Core.Path.{◌≡◌, refl, ap, ◌∙◌}
use Prim.Native.Nat.{ℕ, zero, suc, ◌+◌, ◌-◌, ◌≤◌}
use mathlib.Core.List.Memᴰ
use mathlib.Core.List.{List, [], ◌∷◌, ◌++◌, Memᴰ}
use mathlib.Core.Logic.{◌⊎◌, inl, inr}
use mathlib.Core.Bool.{Bool, true, false}
use native.Mathlib.Omega.{arith}
use borrow.Author.Tests.{leb-false, eqb-true, eqb-false, lt-leb, eq-eqb, ne_eqb}
use lib.ListN.{length}
use lib.Dec.{eqb, leb}
use Rattle.lists.specs.Lists.{pick, Exactly}
use Rattle.lists.proofs.Same.{and_left, and_right}
use Rattle.gsub.specs.declared.Scope.{Scope}
use Rattle.gsub.specs.declared.Kind.{Kind}
use Rattle.gsub.specs.declared.Kind.TheVariants.{Header}
use Rattle.gsub.specs.declared.Rule.{Rule}
use Rattle.gsub.specs.declared.Rule.TheVariants.{Any, Only, To, ToOrNull, ToFeature}
use Rattle.gsub.specs.declared.Field.{Field}
use Rattle.gsub.specs.Tables.{fields_at}
use Rattle.gsub.specs.Ops.{Act, keep, follow, refuse, by_rule, value_at, feature_at, act, Op, begin, link, end, stop, act_ops, fields_ops, table_ops}
use Rattle.gsub.specs.Meaning.{deepest}
use Rattle.gsub.specs.Refusals.{Bad, passes, another, null, null-feature, FieldAt, here, there, Met, header, child, BadAt}
use Rattle.gsub.proofs.Depth.{rank, some-rank, within, all_within, within-fields, act-within, more_within, deeper}

-- ---- one field

module _ (b : List ℕ) (at : ℕ) (f : Field) where
  abbrev value : ℕ
  value = value_at b at f.width

  abbrev feature : Kind
  feature = feature_at b at

  -- an offset that may not be NULL
  null-refused : (k : Kind) → by_rule (To k) feature value ≡ refuse → value ≡ 0
  unfolding by_rule
  null-refused k e = go (eqb value 0) refl e
    where
      go : (t : Bool) → eqb value 0 ≡ t → pick t refuse (follow k) ≡ refuse → value ≡ 0
      go true z e = eqb-true value 0 z
      go false z e = absurd (let z : ◌≡◌ {A = ℕ} 0 1 = cc in omega arith)

  by-rule : (r : Rule) → f.rule ≡ r → by_rule r feature value ≡ refuse → Bad b at f
  unfolding by_rule
  by-rule Any q e = absurd (let z : ◌≡◌ {A = ℕ} 0 1 = cc in omega arith)
  by-rule (Only x) q e = go (eqb value x) refl e
    where
      go : (t : Bool) → eqb value x ≡ t → pick t keep refuse ≡ refuse → Bad b at f
      go true z e = absurd (let z : ◌≡◌ {A = ℕ} 0 1 = cc in omega arith)
      go false z e = another x q (eqb-false value x z)
  by-rule (To k) q e = null k q (null-refused k e)
  by-rule (ToOrNull k) q e = absurd (go (eqb value 0) e)
    where
      go : (t : Bool) → pick t keep (follow k) ≡ refuse → ⊥
      go true e = let z : ◌≡◌ {A = ℕ} 0 1 = cc in omega arith
      go false e = let z : ◌≡◌ {A = ℕ} 0 1 = cc in omega arith
  by-rule ToFeature q e = null-feature q (null-refused feature e)

  refused-bad : act b at f ≡ refuse → Bad b at f
  unfolding act
  refused-bad e = go (leb (at + f.width) (length b)) refl e
    where
      go : (t : Bool) → leb (at + f.width) (length b) ≡ t → pick t (by_rule f.rule feature value) refuse ≡ refuse → Bad b at f
      go true z e = by-rule f.rule refl e
      go false z e = passes (leb-false (at + f.width) (length b) z)

  by-its-rule : by_rule f.rule feature value ≡ refuse → act b at f ≡ refuse
  unfolding act
  by-its-rule e = go (leb (at + f.width) (length b))
    where
      go : (t : Bool) → pick t (by_rule f.rule feature value) refuse ≡ refuse
      go true = e
      go false = refl

  bad-refused : Bad b at f → act b at f ≡ refuse
  unfolding act by_rule
  bad-refused (passes h) = rw (lt-leb (at + f.width) (length b) h)
  bad-refused (another v q n) = by-its-rule (rw (q, ne_eqb value v n))
  bad-refused (null k q z) = by-its-rule (rw (q, eq-eqb value 0 z))
  bad-refused (null-feature q z) = by-its-rule (rw (q, eq-eqb value 0 z))

  pub refused-exactly : Exactly (act b at f ≡ refuse) (Bad b at f)
  refused-exactly = record { only = refused-bad; when = bad-refused }

stands-within : (n : ℕ) (f : Field) (a : ℕ) (fs : List Field) → FieldAt f a fs → all_within n fs ≡ true → within n f.rule ≡ true
stands-within n f _ _ here h = and_left (within n f.rule) _ h
stands-within n f _ _ (there {a = a} {g = g} {fs = fs} s) h = stands-within n f a fs s (and_right (within n g.rule) _ h)

-- ---- the stops among the ops of a table

module _ (scope : Scope) (b : List ℕ) where
  abbrev Has : Op → List Op → Type 0
  Has o ops = Memᴰ o ops

  none-but : {o x : Op} → (o ≡ x → ⊥) → Has o (x ∷ []) → ⊥
  none-but {o} {x} n m = go (Memᴰ.cases_cons m)
    where
      go : (o ≡ x) ⊎ Has o [] → ⊥
      go (inl e) = n e
      go (inr h) = Memᴰ.not-nil h

  module _ {place : ℕ} (n : ℕ) (k : Kind) (p : ℕ) (met : Met scope b k p) (below : (j : Kind) (q : ℕ) → rank j ≤ n → Met scope b j q → Has (stop place) (table_ops n b j q) → BadAt scope b place) where
    act-bad : (a : ℕ) (f : Field) → FieldAt f a (fields_at b k p) → within n f.rule ≡ true → (y : Act) → act b (p + a) f ≡ y → Has (stop place) (act_ops (table_ops n b) b p a f.width y) → BadAt scope b place
    unfolding act_ops
    act-bad a f s h keep e m = absurd (none-but (λ z. let q : ◌≡◌ {A = ℕ} 0 1 = cc in omega arith) m)
    act-bad a f s h (follow j) e m = go (Memᴰ.append_cases (table_ops n b j (p + value_at b (p + a) f.width)) m)
      where
        go : Has (stop place) (table_ops n b j (p + value_at b (p + a) f.width)) ⊎ Has (stop place) (link f.width ∷ []) → BadAt scope b place
        go (inl i) = below j _ (act-within n b (p + a) f j h e) (child met s e) i
        go (inr i) = absurd (none-but (λ z. let q : ◌≡◌ {A = ℕ} 0 1 = cc in omega arith) i)
    act-bad a f s h refuse e m = go (Memᴰ.cases_cons m)
      where
        go : (stop place ≡ stop (p + a)) ⊎ Has (stop place) [] → BadAt scope b place
        go (inl z) =
            let q : place ≡ p + a = cc in
            record { kind = k; table = p; met = met; at = a; field = f; stands = s; place_is = q; bad = rw q (refused-bad b (p + a) f e) }
        go (inr i) = absurd (Memᴰ.not-nil i)

    fields-bad : (fs : List Field) (a : ℕ) → ((f : Field) (c : ℕ) → FieldAt f c fs → FieldAt f (a + c) (fields_at b k p)) → all_within n fs ≡ true → Has (stop place) (fields_ops (λ a. table_ops n b) b p a fs) → BadAt scope b place
    unfolding fields_ops
    fields-bad [] a s h m = absurd (Memᴰ.not-nil m)
    fields-bad (f ∷ fs) a s h m =
        go
        (λ i.
        fields-bad fs (a + f.width) (λ g c t. let z : a + (f.width + c) ≡ a + f.width + c = omega arith in rw z at (s g (f.width + c) (there t)))
        (and_right (within n f.rule) _ h) i)
        (Memᴰ.append_cases (act_ops (table_ops n b) b p a f.width (act b (p + a) f)) m)
      where
        Later : Type 0
        Later = Has (stop place) (fields_ops (λ a. table_ops n b) b p (a + f.width) fs)

        go : (Later → BadAt scope b place) → Has (stop place) (act_ops (table_ops n b) b p a f.width (act b (p + a) f)) ⊎ Later → BadAt scope b place
        go later (inl i) = let z : a + 0 ≡ a = omega arith in act-bad a f (rw z at (s f 0 here)) (and_left (within n f.rule) _ h) (act b (p + a) f) refl i
        go later (inr i) = later i

  stop-bad : {place : ℕ} (n : ℕ) (k : Kind) (p : ℕ) → rank k ≤ n → Met scope b k p → Has (stop place) (table_ops n b k p) → BadAt scope b place
  unfolding table_ops
  stop-bad zero k p h met m = absurd (omega (arith, some-rank k))
  stop-bad {place} (suc n) k p h met m =
      let inside = more_within (rank k - 1) n (fields_at b k p) (omega arith) (within-fields k _ (rank k - 1) (omega (arith, some-rank k))) in
      go (fields-bad n k p met (stop-bad n) (fields_at b k p) 0 (λ f c s. let z : 0 + c ≡ c = omega arith in rw z s) inside) (Memᴰ.cases_cons m)
    where
      fields : List Op
      fields = fields_ops (λ a. table_ops n b) b p 0 (fields_at b k p)

      last : (Has (stop place) fields → BadAt scope b place) → Has (stop place) fields ⊎ Has (stop place) (end ∷ []) → BadAt scope b place
      last among (inl i) = among i
      last among (inr i) = absurd (none-but (λ z. let q : ◌≡◌ {A = ℕ} 0 1 = cc in omega arith) i)

      go : (Has (stop place) fields → BadAt scope b place) → (stop place ≡ begin) ⊎ Has (stop place) (fields ++ (end ∷ [])) → BadAt scope b place
      go among (inl z) = absurd (let q : ◌≡◌ {A = ℕ} 0 1 = cc in omega arith)
      go among (inr i) = last among (Memᴰ.append_cases fields i)

  -- ---- and a stop for each bad field

  has-field : {o : Op} (ops : ℕ → Kind → ℕ → List Op) (p : ℕ) (f : Field) (c : ℕ) (fs : List Field) → FieldAt f c fs → (a : ℕ)
      → Has o (act_ops (ops (a + c)) b p (a + c) f.width (act b (p + (a + c)) f)) → Has o (fields_ops ops b p a fs)
  unfolding fields_ops
  has-field ops p f _ _ (here {fs = fs}) a m = let z : a + 0 ≡ a = omega arith in Memᴰ.append_left (fields_ops ops b p (a + f.width) fs) (rw z at m)
  has-field ops p f _ _ (there {a = c} {g = g} {fs = fs} s) a m =
      let z : a + (g.width + c) ≡ a + g.width + c = omega arith in
      Memᴰ.append_right (act_ops (ops a) b p a g.width (act b (p + a) g)) (has-field ops p f c fs s (a + g.width) (rw z at m))

  -- as deep as its rank is deep enough
  deep : (m n : ℕ) (k : Kind) (p : ℕ) → rank k ≤ n → table_ops (n + m) b k p ≡ table_ops n b k p
  deep zero n k p h = let z : n + 0 ≡ n = omega arith in rw z
  deep (suc m) n k p h = let z : n + suc m ≡ suc (n + m) = omega arith in rw z (deeper b (n + m) k p (omega arith) ∙ deep m n k p h)

  in_table : {o : Op} (n : ℕ) (k : Kind) (p a : ℕ) (f : Field) → suc n ≡ rank k → FieldAt f a (fields_at b k p)
      → Has o (act_ops (table_ops n b) b p a f.width (act b (p + a) f)) → Has o (table_ops (rank k) b k p)
  unfolding table_ops
  in_table n k p a f e s m =
      let z : 0 + a ≡ a = omega arith in
      rw (← e) (Memᴰ.tail (Memᴰ.append_left (end ∷ []) (has-field (λ a. table_ops n b) p f a (fields_at b k p) s 0 (rw z m))))

  met_has : {o : Op} (k : Kind) (p : ℕ) → Met scope b k p → Has o (table_ops (rank k) b k p) → Has o (table_ops deepest b (Header scope) 0)
  unfolding act_ops
  met_has _ _ header m = m
  met_has {o} _ _ (child {k = k} {j = j} {p = p} {a = a} {f = f} met s e) m =
      let n = rank k - 1 in
      let q = p + value_at b (p + a) f.width in
      let h : rank j ≤ n = act-within n b (p + a) f j (stands-within n f a (fields_at b k p) s (within-fields k _ n (omega (arith, some-rank k)))) e in
      let d : n ≡ rank j + (n - rank j) = omega arith in
      let same : table_ops n b j q ≡ table_ops (rank j) b j q = ap (λ x. table_ops x b j q) d ∙ deep (n - rank j) (rank j) j q (omega arith) in
      met_has k p met (in_table n k p a f (omega (arith, some-rank k)) s (rw e (Memᴰ.append_left {s = table_ops n b j q} (link f.width ∷ []) (rw same m))))

  bad-stop : {place : ℕ} → BadAt scope b place → Has (stop place) (table_ops deepest b (Header scope) 0)
  unfolding act_ops
  bad-stop t =
      let n = rank t.kind - 1 in
      let e = bad-refused b (t.table + t.at) t.field (rw t.place_is at t.bad) in
      met_has t.kind t.table t.met
      (in_table n t.kind t.table t.at t.field (omega (arith, some-rank t.kind)) t.stands (rw e (Memᴰ.head (ap stop t.place_is))))

  -- a read stops nowhere else than at a bad field of a table that it comes to, and at each of these
  pub stops-exactly : (place : ℕ) → Exactly (Memᴰ (stop place) (table_ops deepest b (Header scope) 0)) (BadAt scope b place)
  stops-exactly place = record { only = stop-bad deepest (Header scope) 0 (omega arith) header; when = bad-stop }

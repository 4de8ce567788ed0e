-- The substitutes of a table that was read without refusal 15, lookups of it promoted, are that reading's too.
use mathlib.Core.Path.{◌≡◌, refl, ap, ◌∙◌}
use Prim.Native.Nat.{ℕ, zero, suc, ◌+◌, ◌*◌, ◌≤◌, ◌<◌}
use mathlib.Core.List.{List}
use mathlib.Core.Bool.{Bool, true, false, ◌&&◌}
use native.Mathlib.Nat.{add-zero}
use native.Mathlib.Decide.{dec_le}
use native.Mathlib.Omega.{arith}
use borrow.Author.Tests.{eqb-true, leb-true}
use lib.ListN.{length, get_or-eq_default}
use lib.Dec.{eqb, leb}
use Rattle.lists.specs.Lists.{pick}
use Rattle.lists.proofs.Same.{and_left, and_right}
use Rattle.model_orders.specs.Reading.{Reading}
use Rattle.gsub.specs.declared.Scope.{Scope}
use Rattle.gsub.specs.declared.Scope.TheVariants.{Single, Whole}
use Rattle.gsub.specs.declared.Kind.{Kind}
use Rattle.gsub.specs.declared.Kind.TheVariants.{Lookup, Extension, SingleSubst}
use Rattle.gsub.specs.Tables.{word_at}
use Rattle.gsub.specs.Ops.{Op, ops_by, table_ops}
use Rattle.gsub.specs.Meaning.{reading_by, table_reading}
use Rattle.gsub.specs.Substitute.{subtable, type_of, word_of, child_of, substitute, word_from, child_from, substitute_from}
use Rattle.gsub.specs.Promote.{plain, last, promoted, new, extension_size, new_bytes, promotes, is_last, by_kind, child_mode, mode_ops, mode_reading, trial_ops, trial_reading}
use Rattle.gsub.proofs.Plain.{plain-ops, plain-reading}
use Rattle.gsub.proofs.Changed.{changed, same_word, type-lies}
use Rattle.gsub.proofs.Again.{Clean}
use Rattle.gsub.proofs.Places.{table-word, table-child, table-far}
use Rattle.gsub.proofs.Substitutes.{lookup-type, lookup-count, lookup-extension, extension-type, extension-subtable, SameSubtable, SameTyped, subtables-same, subtable-read, lookup-read, substitutes-by}
use Rattle.gsub.proofs.Substitutes as read

-- ---- which types are promoted

-- type 7 is not
another-type : (s : Scope) (type : ℕ) → promotes s type ≡ true → eqb type 7 ≡ false
unfolding promotes
another-type Single type h = rw (eqb-true type 1 h)
another-type Whole type h = go (eqb type 7) refl h
  where
    go : (t : Bool) → eqb type 7 ≡ t → pick t false (leb 1 type && leb type 8) ≡ true → eqb type 7 ≡ false
    go true e h = absurd (let z : ◌≡◌ {A = ℕ} 0 1 = cc in omega arith)
    go false e h = e

promotes-range : (s : Scope) (type : ℕ) → promotes s type ≡ true → (1 ≤ type) × (type ≤ 8)
unfolding promotes
promotes-range Single type h = let e = eqb-true type 1 h in (omega arith, omega arith)
promotes-range Whole type h = go (eqb type 7) h
  where
    go : (t : Bool) → pick t false (leb 1 type && leb type 8) ≡ true → (1 ≤ type) × (type ≤ 8)
    go true h = absurd (let z : ◌≡◌ {A = ℕ} 0 1 = cc in omega arith)
    go false h = (leb-true 1 type (and_left (leb 1 type) _ h), leb-true type 8 (and_right (leb 1 type) _ h))

-- the new Extension has the type that it is for
new-type : (s : Scope) (type : ℕ) → promotes s type ≡ true → word_from new_bytes (extension_size * type) 2 ≡ type
new-type s type h = go type (promotes-range s type h).1
  where
    go : (n : ℕ) → n ≤ 8 → word_from new_bytes (extension_size * n) 2 ≡ n
    go zero l = refl
    go (suc zero) l = refl
    go (suc (suc zero)) l = refl
    go (suc (suc (suc zero))) l = refl
    go (suc (suc (suc (suc zero)))) l = refl
    go (suc (suc (suc (suc (suc zero))))) l = refl
    go (suc (suc (suc (suc (suc (suc zero)))))) l = refl
    go (suc (suc (suc (suc (suc (suc (suc zero))))))) l = refl
    go (suc (suc (suc (suc (suc (suc (suc (suc zero)))))))) l = refl
    go (suc (suc (suc (suc (suc (suc (suc (suc (suc n))))))))) l = absurd (omega arith)

-- a lookup that is promoted has its type in the slice
promotes-lies : (b : List ℕ) (s : Scope) (p : ℕ) → promotes s (word_at b p) ≡ true → p + 2 ≤ length b
promotes-lies b s p h = go (dec_le (p + 2) (length b))
  where
    go : Dec (p + 2 ≤ length b) → p + 2 ≤ length b
    go (yes l) = l
    go (no l) = absurd (omega (arith, (promotes-range s (word_at b p) h).0, (promotes-range s (word_at b p) h).1, get_or-eq_default b 0 {n = p + 1} (omega arith)))

module _ (b : List ℕ) (g : ℕ) where
  abbrev word : ℕ → ℕ → ℕ
  word = read.word b g

  abbrev child : ℕ → ℕ → ℕ
  child = read.child b g

  abbrev far : ℕ → ℕ → ℕ
  far = read.far b g

  abbrev ReadLookup : ℕ → Reading → Type 0
  ReadLookup = read.ReadLookup b g

  plain-subtable : (d p : ℕ) → Clean (mode_ops (suc (suc d)) b plain SingleSubst p) → SameSubtable word child word_of child_of g p (mode_reading (suc (suc d)) b plain SingleSubst p)
  plain-subtable d p c = rw (plain-reading (suc (suc d)) b) (subtable-read b g d p (rw (plain-ops (suc (suc d)) b) at c))

  -- a promoted lookup at p
  module _ (s : Scope) (d p : ℕ) where
    abbrev type : ℕ
    type = word_at b p

    abbrev new_ops : ℕ → Kind → ℕ → List Op
    new_ops a = mode_ops (suc (suc (suc d))) b (new type)

    abbrev new_reading : ℕ → Kind → ℕ → Reading
    new_reading a = mode_reading (suc (suc (suc d))) b (new type)

    abbrev whole : Reading
    whole = reading_by new_reading (changed b p) (Lookup s) p

    -- but for its type it has its own numbers
    own-word : (x : ℕ) → 2 ≤ x → word_from (changed b p) p x ≡ word p x
    own-word x h = same_word b p (p + x) (omega arith)

    -- the new Extension carries the lookup's own type, and leads to the subtable
    new-typed : promotes s type ≡ true → word_from (changed b p) p 0 ≡ 7 → word_of whole 0 ≡ 7 → (j : ℕ) → j < word p 4 → Clean (ops_by new_ops (changed b p) (Lookup s) p)
        → SameTyped word child word_of child_of g far child_of p whole j
    unfolding mode_ops mode_reading type_of subtable
    new-typed yes-promoted seven shown j h c =
        let l = table-child new_ops new_reading (changed b p) (Lookup s) p c (6 + 2 * j) (Extension s) (lookup-extension (λ i. word_from (changed b p) p i) s j seven (rw (own-word 4 (omega arith)) h)) in
        let q = child_from (changed b p) p (6 + 2 * j) in
        let e : q ≡ child p (6 + 2 * j) = ap (λ z. p + z) (own-word (6 + 2 * j) (omega arith)) in
        let at = extension_size * type in
        let below : ℕ → Kind → ℕ → List Op = λ a k z. mode_ops (suc (suc d)) b plain k q in
        let under : ℕ → Kind → ℕ → Reading = λ a k z. mode_reading (suc (suc d)) b plain k q in
        let of = table-word below under new_bytes (Extension s) at l.clean 2 (extension-type (λ i. word_from new_bytes at i) s) ∙ new-type s type yes-promoted in
        let first : word p 0 ≡ type = ap (λ z. word_at b z) (add-zero p) in
        let not-7 = another-type s type yes-promoted in
        let types : word_of (child_of whole (6 + 2 * j)) 2 ≡ type = ap (λ r. word_of r 2) l.reading ∙ of in
        record {
          type = rw (shown, types, first, not-7);
          alike = λ one.
              let single : type ≡ 1 = rw (first, not-7) at one in
              let x = table-far below under new_bytes (Extension s) at l.clean 4 SingleSubst (extension-subtable (λ i. word_from new_bytes at i) s (new-type s type yes-promoted ∙ single)) in
              rw (shown, first, not-7, l.reading, x.reading, ← e) (plain-subtable d q x.clean);
        }

    promoted-read : promotes s type ≡ true → Clean (mode_ops (suc (suc (suc (suc d)))) b promoted (Lookup s) p) → ReadLookup p (mode_reading (suc (suc (suc (suc d)))) b promoted (Lookup s) p)
    unfolding mode_ops mode_reading
    promoted-read yes-promoted c =
        let seven : word_from (changed b p) p 0 ≡ 7 = ap (word_at (changed b p)) (add-zero p) ∙ type-lies b p (promotes-lies b s p yes-promoted) in
        let shown = table-word new_ops new_reading (changed b p) (Lookup s) p c 0 (lookup-type (λ i. word_from (changed b p) p i) s) ∙ seven in
        let count = table-word new_ops new_reading (changed b p) (Lookup s) p c 4 (lookup-count (λ i. word_from (changed b p) p i) s) ∙ own-word 4 (omega arith) in
        rw count (subtables-same word child word_of child_of g far child_of p _ (word p 4) 0 (λ j h. new-typed yes-promoted seven shown j (omega arith) c))

  plain-read : (s : Scope) (p : ℕ) → Clean (mode_ops 5 b plain (Lookup s) p) → ReadLookup p (mode_reading 5 b plain (Lookup s) p)
  unfolding table_ops table_reading
  plain-read s p c = rw (plain-reading 5 b) (lookup-read b g s 1 p (rw (plain-ops 5 b) at c))

  lookup-by : (s : Scope) (p : ℕ) (last type : Bool) → promotes s (word_at b p) ≡ type → let m = pick (last && type) promoted plain in
      Clean (mode_ops 5 b m (Lookup s) p) → ReadLookup p (mode_reading 5 b m (Lookup s) p)
  lookup-by s p true true e c = promoted-read s 1 p e c
  lookup-by s p true false e c = plain-read s p c
  lookup-by s p false type e c = plain-read s p c

pub trial-substitutes : (s : Scope) (n : ℕ) (b : List ℕ) → Clean (trial_ops s n b) → (l g : ℕ) → substitute_from b l g ≡ substitute (trial_reading s n b) l g
unfolding mode_ops mode_reading by_kind
trial-substitutes s n b c l g =
    substitutes-by b g s _ _ (λ p a k q. mode_ops 5 b (child_mode b (last n) p a k q) k q) (λ p a k q. mode_reading 5 b (child_mode b (last n) p a k q) k q) (λ p. refl) (λ p. refl)
    (λ p a q. lookup-by b g s q (is_last n b p a) (promotes s (word_at b q)) refl) c l

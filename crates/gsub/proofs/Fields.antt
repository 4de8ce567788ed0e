-- What holds of all the fields of a table, by a test of the runs of its shape; and that a table has a field.
use mathlib.Core.Path.{◌≡◌, refl}
use Prim.Native.Nat.{ℕ, zero, suc, ◌+◌, ◌*◌}
use mathlib.Core.List.{List, [], ◌∷◌, ◌++◌}
use mathlib.Core.Bool.{Bool, true, false, ◌&&◌}
use native.Mathlib.Omega.{arith}
use Rattle.lists.proofs.Same.{and_left, and_right}
use Rattle.gsub.specs.declared.Kind.{Kind}
use Rattle.gsub.specs.declared.Field.{Field}
use Rattle.gsub.specs.Tables.{Times, once, count, before, marked, Run, Shape, laid, often, size, formats, shape, times, fields_of}
use Rattle.gsub.proofs.Formats.{kinds, of_all, every_kind, each_shape, every-shape}

pub both : {a b : Bool} → a ≡ true → b ≡ true → (a && b) ≡ true
both e f = rw (e, f)

-- ---- a test that holds of two lists one after the other if it holds of both

pub record Joins (test : List Field → Bool) : Type 0 where
  pub none : test [] ≡ true
  pub join : (a b : List Field) → test a ≡ true → test b ≡ true → test (a ++ b) ≡ true

module _ (test : List Field → Bool) where
  -- every run's fields
  unfoldable pub all_runs : List Run → Bool
  all_runs [] = true
  all_runs (r ∷ rs) = test r.each && all_runs rs

  module _ (joins : Joins test) where
    all-times : (m : ℕ) (r : List Field) → test r ≡ true → test (times m r) ≡ true
    unfolding times
    all-times zero r h = joins.none
    all-times (suc m) r h = joins.join r (times m r) h (all-times m r h)

    pub all_laid : (w : ℕ → ℕ) (rs : List Run) (a : ℕ) → all_runs rs ≡ true → test (laid w a rs) ≡ true
    unfolding all_runs laid
    all_laid w [] a h = joins.none
    all_laid w (r ∷ rs) a h =
        let m = often w a r.by in
        joins.join (times m r.each) (laid w (a + m * size r.each) rs) (all-times m r.each (and_left (test r.each) _ h))
        (all_laid w rs (a + m * size r.each) (and_right (test r.each) _ h))

-- one such: a test of each field
module _ (test : Field → Bool) where
  abbrev pub all_fields : List Field → Bool
  all_fields [] = true
  all_fields (f ∷ fs) = test f && all_fields fs

  all_append : (a b : List Field) → all_fields a ≡ true → all_fields b ≡ true → all_fields (a ++ b) ≡ true
  all_append [] b h l = l
  all_append (f ∷ a) b h l = both (and_left (test f) _ h) (all_append a b (and_right (test f) _ h) l)

  pub fields_join : Joins all_fields
  fields_join = record { none = refl; join = all_append }

-- ---- the first field

pub record First (fs : List Field) : Type 0 where
  pub first : Field
  pub others : List Field
  pub whole : fs ≡ first ∷ others

-- a table begins with fields that stand there once
abbrev starts_once : Times → List Field → Bool
starts_once once [] = false
starts_once once (f ∷ fs) = true
starts_once (count at less) fs = false
starts_once (before less) fs = false
starts_once marked fs = false

unfoldable starts : Shape → Bool
starts [] = false
starts (r ∷ rs) = starts_once r.by r.each

all_start : (k : Kind) (first second : ℕ) → starts (shape k first second) ≡ true
unfolding every_kind of_all kinds each_shape formats starts
all_start = every-shape (λ k. starts) refl

module _ (w : ℕ → ℕ) where
  first_run : (t : Times) (fs : List Field) (later : List Field) → starts_once t fs ≡ true → First (times (often w 0 t) fs ++ later)
  unfolding often times
  first_run once [] later h = absurd (let z : ◌≡◌ {A = ℕ} 0 1 = cc in omega arith)
  first_run once (f ∷ fs) later h = record { first = _; others = _; whole = refl }
  first_run (count at less) fs later h = absurd (let z : ◌≡◌ {A = ℕ} 0 1 = cc in omega arith)
  first_run (before less) fs later h = absurd (let z : ◌≡◌ {A = ℕ} 0 1 = cc in omega arith)
  first_run marked fs later h = absurd (let z : ◌≡◌ {A = ℕ} 0 1 = cc in omega arith)

  first-laid : (s : Shape) → starts s ≡ true → First (laid w 0 s)
  unfolding starts laid
  first-laid [] h = absurd (let z : ◌≡◌ {A = ℕ} 0 1 = cc in omega arith)
  first-laid (r ∷ rs) h = first_run r.by r.each _ h

  pub has_first : (k : Kind) → First (fields_of k w)
  unfolding fields_of
  has_first k = first-laid (shape k (w 0) (w 2)) (all_start k (w 0) (w 2))

-- Which fields a table has is settled by the numbers in its plain fields alone.
use mathlib.Core.Path.{◌≡◌, refl, ap, ◌∙◌}
use Prim.Native.Nat.{ℕ, zero, suc, ◌+◌, ◌-◌, ◌*◌}
use mathlib.Core.List.{List, [], ◌∷◌, ◌++◌, append-nil}
use mathlib.Core.Bool.{Bool, true, false, ◌&&◌}
use native.Mathlib.Omega.{arith}
use native.Mathlib.Nat.{suc-mul}
use borrow.Author.Tests.{eqb-true}
use lib.Dec.{eqb}
use Rattle.lists.specs.Lists.{pick}
use Rattle.lists.proofs.Same.{and_left, and_right}
use Rattle.gsub.specs.declared.Kind.{Kind}
use Rattle.gsub.specs.declared.Rule.{Rule}
use Rattle.gsub.specs.declared.Rule.TheVariants.{Any, Only, To, ToOrNull, ToFeature}
use Rattle.gsub.specs.declared.Field.{Field}
use Rattle.gsub.specs.Tables.{Times, once, count, before, marked, Run, Shape, often, laid, Formats, only, by_first, by_second, by_number, chosen, formats, shape, times, size, fields_of}
use Rattle.gsub.proofs.Formats.{kinds, of_all, every_kind, every-kind, each_shape, by-number, every-shape}

-- of a field that is no offset
unfoldable pub Plain : Rule → Type 0 → Type 0
Plain Any T = T
Plain (Only x) T = T
Plain (To k) T = Unit {0}
Plain (ToOrNull k) T = Unit {0}
Plain ToFeature T = Unit {0}

-- w and u have the same numbers in the plain fields of two bytes from a on
unfoldable pub Agree : (ℕ → ℕ) → (ℕ → ℕ) → ℕ → List Field → Type 0
Agree w u a [] = Unit {0}
Agree w u a (f ∷ fs) = Plain f.rule (f.width ≡ 2 → w a ≡ u a) × Agree w u (a + f.width) fs

-- ---- runs whose counts stand in plain fields before them

abbrev pub plain_rule : Rule → Bool
plain_rule Any = true
plain_rule (Only x) = true
plain_rule (To k) = false
plain_rule (ToOrNull k) = false
plain_rule ToFeature = false

abbrev plain : Field → Bool
plain f = eqb f.width 2 && plain_rule f.rule

-- a plain field stands at x, of those from a on
unfoldable pub plain_at : ℕ → ℕ → List Field → Bool
plain_at x a [] = false
plain_at x a (f ∷ fs) = pick (eqb x a) (plain f) (plain_at x (a + f.width) fs)

unfoldable ends_plain : List Field → Bool
ends_plain [] = false
ends_plain (f ∷ []) = plain f
ends_plain (f ∷ g ∷ fs) = ends_plain (g ∷ fs)

abbrev pub is_once : Times → Bool
is_once once = true
is_once (count at less) = false
is_once (before less) = false
is_once marked = false

-- `front` are the table's first fields; `last`, whether a plain field ends just before
abbrev count_stands : List Field → Bool → Times → Bool
count_stands front last once = true
count_stands front last (count at less) = plain_at at 0 front
count_stands front last (before less) = last
count_stands front last marked = plain_at 2 0 front

unfoldable stands : List Field → Bool → List Run → Bool
stands front last [] = true
stands front last (r ∷ rs) = count_stands front last r.by && stands front (is_once r.by && ends_plain r.each) rs

-- fields in front once, and then such runs
unfoldable sure : Shape → Bool
sure [] = true
sure (r ∷ rs) = is_once r.by && stands r.each (ends_plain r.each) rs

-- a plain field stands at x in front
unfoldable pub front_plain : ℕ → Shape → Bool
front_plain x [] = false
front_plain x (r ∷ rs) = is_once r.by && plain_at x 0 r.each

-- ---- sizes

size-append : (a b : List Field) → size (a ++ b) ≡ size a + size b
unfolding size
size-append [] b = omega arith
size-append (f ∷ a) b = omega (arith, size-append a b)

size-times : (n : ℕ) (r : List Field) → size (times n r) ≡ n * size r
unfolding size times
size-times zero r = omega arith
size-times (suc n) r = omega (arith, size-append r (times n r), size-times n r, suc-mul n (size r))

-- ---- any two tables that agree

module _ (w u : ℕ → ℕ) where
  agree_left : (a : ℕ) (x y : List Field) → Agree w u a (x ++ y) → Agree w u a x
  unfolding Agree
  agree_left a [] y h = tt
  agree_left a (f ∷ x) y h = (h.0, agree_left (a + f.width) x y h.1)

  agree_right : (a : ℕ) (x y : List Field) → Agree w u a (x ++ y) → Agree w u (a + size x) y
  unfolding Agree size
  agree_right a [] y h = let e : a + 0 ≡ a = omega arith in rw e h
  agree_right a (f ∷ x) y h = let e : a + (f.width + size x) ≡ a + f.width + size x = omega arith in rw e (agree_right (a + f.width) x y h.1)

  plain-gives : (r : Rule) (n : ℕ) {T : Type 0} → (eqb n 2 && plain_rule r) ≡ true → Plain r (n ≡ 2 → T) → T
  unfolding Plain
  plain-gives Any n p g = g (eqb-true n 2 (and_left (eqb n 2) true p))
  plain-gives (Only x) n p g = g (eqb-true n 2 (and_left (eqb n 2) true p))
  plain-gives (To k) n p g = let z = and_right (eqb n 2) false p in absurd (let q : ◌≡◌ {A = ℕ} 0 1 = cc in omega arith)
  plain-gives (ToOrNull k) n p g = let z = and_right (eqb n 2) false p in absurd (let q : ◌≡◌ {A = ℕ} 0 1 = cc in omega arith)
  plain-gives ToFeature n p g = let z = and_right (eqb n 2) false p in absurd (let q : ◌≡◌ {A = ℕ} 0 1 = cc in omega arith)

  at_same : (fs : List Field) (a x : ℕ) → Agree w u a fs → plain_at x a fs ≡ true → w x ≡ u x
  unfolding Agree plain_at
  at_same [] a x h p = absurd (let q : ◌≡◌ {A = ℕ} 0 1 = cc in omega arith)
  at_same (f ∷ fs) a x h p = go (eqb x a) refl p (at_same fs (a + f.width) x h.1)
    where
      go : (t : Bool) → eqb x a ≡ t → pick t (plain f) (plain_at x (a + f.width) fs) ≡ true → (plain_at x (a + f.width) fs ≡ true → w x ≡ u x) → w x ≡ u x
      go true e p later = rw (eqb-true x a e) (plain-gives f.rule f.width p h.0)
      go false e p later = later p

  ends_same : (fs : List Field) (a : ℕ) → Agree w u a fs → ends_plain fs ≡ true → w (a + size fs - 2) ≡ u (a + size fs - 2)
  unfolding Agree ends_plain size
  ends_same [] a h p = absurd (let q : ◌≡◌ {A = ℕ} 0 1 = cc in omega arith)
  ends_same (f ∷ []) a h p =
      let e : a + (f.width + 0) - 2 ≡ a = omega (arith, eqb-true f.width 2 (and_left (eqb f.width 2) _ p)) in
      rw e (plain-gives f.rule f.width p h.0)
  ends_same (f ∷ g ∷ fs) a h p =
      let e : a + (f.width + (g.width + size fs)) - 2 ≡ a + f.width + (g.width + size fs) - 2 = omega arith in
      rw e (ends_same (g ∷ fs) (a + f.width) h.1 p)

  -- ---- runs, given the fields in front

  module _ (front : List Field) (h : Agree w u 0 front) where
    same-often : (a : ℕ) (last : Bool) → (last ≡ true → w (a - 2) ≡ u (a - 2)) → (t : Times) → count_stands front last t ≡ true → often w a t ≡ often u a t
    unfolding often
    same-often a last l once s = refl
    same-often a last l (count at less) s = rw (at_same front 0 at h s)
    same-often a last l (before less) s = rw (l s)
    same-often a last l marked s = rw (at_same front 0 2 h s)

    -- just before the next run
    next_last : (a : ℕ) (t : Times) (fs : List Field) → Agree w u a (times (often w a t) fs) → (is_once t && ends_plain fs) ≡ true
        → w (a + often w a t * size fs - 2) ≡ u (a + often w a t * size fs - 2)
    unfolding often times
    next_last a once fs g p =
        let e : a + 1 * size fs - 2 ≡ a + size fs - 2 = omega arith in
        rw e (ends_same fs a (rw append-nil at g) p)
    next_last a (count at less) fs g p = absurd (let q : ◌≡◌ {A = ℕ} 0 1 = cc in omega arith)
    next_last a (before less) fs g p = absurd (let q : ◌≡◌ {A = ℕ} 0 1 = cc in omega arith)
    next_last a marked fs g p = absurd (let q : ◌≡◌ {A = ℕ} 0 1 = cc in omega arith)

    same_runs : (rs : List Run) (a : ℕ) (last : Bool) → (last ≡ true → w (a - 2) ≡ u (a - 2)) → stands front last rs ≡ true → Agree w u a (laid w a rs) → laid w a rs ≡ laid u a rs
    unfolding stands laid
    same_runs [] a last l s g = refl
    same_runs (r ∷ rs) a last l s g =
        let n = often w a r.by in
        let e = same-often a last l r.by (and_left (count_stands front last r.by) _ s) in
        let here = agree_left a (times n r.each) _ g in
        let later = rw (size-times n r.each) at (agree_right a (times n r.each) _ g) in
        rw (← e) (ap (λ z. times n r.each ++ z) (same_runs rs (a + n * size r.each) (is_once r.by && ends_plain r.each) (next_last a r.by r.each here)
        (and_right (count_stands front last r.by) _ s) later))

  -- ---- a table

  once-agrees : (t : Times) (fs : List Field) → is_once t ≡ true → Agree w u 0 (times (often w 0 t) fs) → Agree w u 0 fs
  unfolding often times
  once-agrees once fs i g = rw append-nil at g
  once-agrees (count at less) fs i g = absurd (let q : ◌≡◌ {A = ℕ} 0 1 = cc in omega arith)
  once-agrees (before less) fs i g = absurd (let q : ◌≡◌ {A = ℕ} 0 1 = cc in omega arith)
  once-agrees marked fs i g = absurd (let q : ◌≡◌ {A = ℕ} 0 1 = cc in omega arith)

  -- the front is a run like the others, so that the same law holds of the whole
  same_shape : (s : Shape) → sure s ≡ true → Agree w u 0 (laid w 0 s) → laid w 0 s ≡ laid u 0 s
  unfolding sure laid stands
  same_shape [] s g = refl
  same_shape (r ∷ rs) s g =
      let i = and_left (is_once r.by) _ s in
      let h = once-agrees r.by r.each i (agree_left 0 (times (often w 0 r.by) r.each) _ g) in
      same_runs r.each h (r ∷ rs) 0 false (λ z. absurd (let q : ◌≡◌ {A = ℕ} 0 1 = cc in omega arith)) (once-stands r.each r rs i (and_right (is_once r.by) _ s)) g
    where
      once-counts : (front : List Field) (t : Times) → is_once t ≡ true → count_stands front false t ≡ true
      once-counts front once i = refl
      once-counts front (count at less) i = cc
      once-counts front (before less) i = cc
      once-counts front marked i = cc

      once-stands : (front : List Field) (r : Run) (rs : List Run) → is_once r.by ≡ true → stands front (ends_plain r.each) rs ≡ true
          → (count_stands front false r.by && stands front (is_once r.by && ends_plain r.each) rs) ≡ true
      once-stands front r rs i k = rw (once-counts front r.by i, i, k)

  -- a table that has a plain field at x in front
  same_at : (x : ℕ) (s : Shape) → front_plain x s ≡ true → Agree w u 0 (laid w 0 s) → w x ≡ u x
  unfolding laid front_plain
  same_at x [] s g = absurd (let q : ◌≡◌ {A = ℕ} 0 1 = cc in omega arith)
  same_at x (r ∷ rs) s g =
      at_same r.each 0 x (once-agrees r.by r.each (and_left (is_once r.by) _ s) (agree_left 0 (times (often w 0 r.by) r.each) _ g)) (and_right (is_once r.by) _ s)

-- ---- every table is such

all-sure : (k : Kind) (first second : ℕ) → sure (shape k first second) ≡ true
unfolding every_kind of_all kinds each_shape formats sure stands ends_plain plain_at
all-sure = every-shape (λ k. sure) refl

-- the number that chooses a table's format stands in a plain field of each
abbrev chooser : Formats → Bool
chooser (only s) = true
chooser (by_first ss) = each_shape (front_plain 0) ss
chooser (by_second from ss) = each_shape (front_plain 2) ss

all-choose : (k : Kind) → chooser (formats k) ≡ true
unfolding every_kind of_all kinds each_shape formats front_plain plain_at
all-choose = every-kind (λ k. chooser (formats k)) refl

module _ (w u : ℕ → ℕ) where
  same_chosen : (f : Formats) → chooser f ≡ true → Agree w u 0 (laid w 0 (chosen f (w 0) (w 2))) → chosen f (w 0) (w 2) ≡ chosen f (u 0) (u 2)
  same_chosen (only s) c h = refl
  same_chosen (by_first ss) c h = ap (λ z. by_number z 1 ss) (same_at w u 0 _ (by-number (front_plain 0) (w 0) 1 ss c) h)
  same_chosen (by_second from ss) c h = ap (λ z. by_number z from ss) (same_at w u 2 _ (by-number (front_plain 2) (w 2) from ss c) h)

  pub settled : (k : Kind) → Agree w u 0 (fields_of k w) → fields_of k w ≡ fields_of k u
  unfolding fields_of
  settled k h = same_shape w u (shape k (w 0) (w 2)) (all-sure k (w 0) (w 2)) h ∙ ap (λ s. laid u 0 s) (same_chosen (formats k) (all-choose k) h)

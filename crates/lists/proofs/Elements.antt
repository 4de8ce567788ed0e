-- Lists by their elements: what holds of each one, one more at the end, sums, the first that passes a test.
use mathlib.Core.Path.{◌≡◌, refl, sym, ap}
use Prim.Native.Nat.{ℕ, zero, suc, ◌+◌, ◌≤◌, ◌<◌}
use mathlib.Core.List.{List, [], ◌∷◌, ◌++◌, map}
use mathlib.Core.Bool.{Bool, true, false}
use native.Mathlib.Omega.{arith}
use native.Mathlib.Decide.{ℕ_discrete, dec_le}
use lib.ListN.{length, get_or, length-append, get_or-append, get_or-eq_default}
use lib.Seq.{get_or_at}
use Rattle.lists.specs.Lists.{pick, total, first_that}

pub data Each {A : Type 0} (P : A → Type 0) : List A → Type 0 where
  none : Each P []
  more : {x : A} {l : List A} → P x → Each P l → Each P (x ∷ l)

module _ {A : Type 0} where
  pub each-then : {P Q : A → Type 0} {l : List A} → ((x : A) → P x → Q x) → Each P l → Each Q l
  each-then h none = none
  each-then h (more {x = x} p ps) = more (h x p) (each-then h ps)

  pub map_each : {B : Type 0} {P : A → Type 0} {l : List A} (f g : A → B) → ((x : A) → P x → f x ≡ g x) → Each P l → map f l ≡ map g l
  map_each f g h none = refl
  map_each f g h (more {x = x} {l = l} p ps) = rw (h x p, map_each f g h ps)

  -- inside a list the value given for outside does not matter
  pub get_or-inside : (l : List A) (i : ℕ) (d e : A) → i < length l → get_or l i d ≡ get_or l i e
  get_or-inside [] i d e h = absurd (omega arith)
  get_or-inside (x ∷ l) zero d e h = refl
  get_or-inside (x ∷ l) (suc i) d e h = get_or-inside l i d e (omega arith)

  -- what holds at every other place of l, and of x at its end, holds at every place of l with x added
  pub at_snoc : (P : ℕ → A → Type 0) (l : List A) (x d : A) → ((i : ℕ) → (i ≡ length l → ⊥) → P i (get_or l i d)) → P (length l) x → (i : ℕ) → P i (get_or (l ++ (x ∷ [])) i d)
  at_snoc P l x d h k i = go (ℕ_discrete i (length l)) (dec_le (length l) i)
    where
      go : Dec (i ≡ length l) → Dec (length l ≤ i) → P i (get_or (l ++ (x ∷ [])) i d)
      go (yes e) _ = rw (get_or_at l x [] d i (sym e), e) k
      go (no n) (yes b) = rw (get_or-eq_default (l ++ (x ∷ [])) d {n = i} (omega (arith, length-append l (x ∷ [])))) (rw (get_or-eq_default l d b) at (h i n))
      go (no n) (no b) = rw (get_or-append l (x ∷ []) d i (omega arith)) (h i n)

  pub total-append : (f : A → ℕ) (a b : List A) → total f (a ++ b) ≡ total f a + total f b
  unfolding total
  total-append f [] b = omega arith
  total-append f (x ∷ a) b = omega (arith, total-append f a b)

  pub total-ones : (l : List A) → total (λ x. 1) l ≡ length l
  unfolding total
  total-ones [] = refl
  total-ones (x ∷ l) = omega (arith, total-ones l)

  pub total-map : {B : Type 0} (f : B → ℕ) (g : A → B) (h : A → ℕ) → ((x : A) → f (g x) ≡ h x) → (l : List A) → total f (map g l) ≡ total h l
  unfolding total
  total-map f g h e [] = refl
  total-map f g h e (x ∷ l) = omega (arith, e x, total-map f g h e l)

  -- those before the first that passes do not pass
  pub first-none : (test : A → Bool) (l : List A) (d : A) (i : ℕ) → i < first_that test l → test (get_or l i d) ≡ false
  unfolding first_that
  first-none test [] d i h = absurd (omega arith)
  first-none test (x ∷ l) d i h = go (test x) refl (first-none test l d) i h
    where
      go : (b : Bool) → test x ≡ b → ((i : ℕ) → i < first_that test l → test (get_or l i d) ≡ false) → (i : ℕ) → i < pick b 0 (suc (first_that test l)) → test (get_or (x ∷ l) i d) ≡ false
      go true e r i h = absurd (omega arith)
      go false e r zero h = e
      go false e r (suc i) h = r i (omega arith)

  -- the first that passes passes
  pub first_passes : (test : A → Bool) (l : List A) (d : A) → first_that test l < length l → test (get_or l (first_that test l) d) ≡ true
  unfolding first_that
  first_passes test [] d h = absurd (omega arith)
  first_passes test (x ∷ l) d h = go (test x) refl (first_passes test l d) h
    where
      go : (b : Bool) → test x ≡ b → (first_that test l < length l → test (get_or l (first_that test l) d) ≡ true) → pick b 0 (suc (first_that test l)) < suc (length l)
          → test (get_or (x ∷ l) (pick b 0 (suc (first_that test l))) d) ≡ true
      go true e r h = e
      go false e r h = r (omega arith)

  -- one more behind: where none passes before it, it passes itself
  pub first_more : (test : A → Bool) (l : List A) (x : A) → (length l ≤ first_that test l → test x ≡ true) → first_that test (l ++ (x ∷ [])) ≡ first_that test l
  unfolding first_that
  first_more test [] x h = rw (h (omega arith))
  first_more test (y ∷ l) x h = go (test y) (first_more test l x) h
    where
      go : (b : Bool) → ((length l ≤ first_that test l → test x ≡ true) → first_that test (l ++ (x ∷ [])) ≡ first_that test l)
          → (suc (length l) ≤ pick b 0 (suc (first_that test l)) → test x ≡ true) → pick b 0 (suc (first_that test (l ++ (x ∷ [])))) ≡ pick b 0 (suc (first_that test l))
      go true r h = refl
      go false r h = ap suc (r (λ k. h (omega arith)))

  -- two lists that pass their tests at the same places
  pub first-same : {B : Type 0} (p : A → Bool) (q : B → Bool) (l : List A) (m : List B) (a : A) (b : B) → length l ≡ length m
      → ((i : ℕ) → i < length l → p (get_or l i a) ≡ q (get_or m i b)) → first_that p l ≡ first_that q m
  unfolding first_that
  first-same p q [] [] a b e h = refl
  first-same p q [] (y ∷ m) a b e h = absurd (omega arith)
  first-same p q (x ∷ l) [] a b e h = absurd (omega arith)
  first-same p q (x ∷ l) (y ∷ m) a b e h = rw (h 0 (omega arith), first-same p q l m a b (omega arith) (λ i k. h (suc i) (omega arith)))

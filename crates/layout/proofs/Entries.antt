-- The entries of a table that passes its test: each against the next, the first and the last.
use mathlib.Core.Path.{◌≡◌}
use Prim.Native.Nat.{ℕ, zero, suc, ◌+◌, ◌-◌, ◌≤◌, ◌<◌}
use mathlib.Core.List.{List, [], ◌∷◌}
use mathlib.Core.Bool.{Bool, true}
use native.Mathlib.Nat.{le_refl, zero-add, add-zero}
use native.Mathlib.Omega.{arith}
use borrow.Author.Tests.{leb-true}
use lib.ListN.{length, get_or}
use lib.Dec.{leb}
use Rattle.lists.specs.Lists.{part}
use Rattle.lists.proofs.Parts.{get_or-part}
use Rattle.lists.proofs.Runs.{length_part}
use Rattle.lists.proofs.Same.{and_left, and_right}
use Rattle.layout.specs.Tables.{chain, chained, rises, falls}

chained-at : (test : ℕ → ℕ → Bool) (l : List ℕ) → chained test l ≡ true → (i : ℕ) → suc i < length l → test (get_or l i 0) (get_or l (suc i) 0) ≡ true
unfolding chained chain
chained-at test [] h i k = absurd (omega arith)
chained-at test (a ∷ []) h i k = absurd (omega arith)
chained-at test (a ∷ x ∷ l) h zero k = and_left (test a x) (chain test x l) h
chained-at test (a ∷ x ∷ l) h (suc i) k = chained-at test (x ∷ l) (and_right (test a x) (chain test x l) h) i (omega arith)

-- n + 1 entries from index `base` on
module _ (base n : ℕ) (w : List ℕ) where
  entries_next : (test : ℕ → ℕ → Bool) → base + n < length w → chained test (part base (base + n + 1) w) ≡ true
      → (i : ℕ) → i < n → test (get_or w (base + i) 0) (get_or w (base + i + 1) 0) ≡ true
  entries_next test r h i k =
      let e : base + suc i ≡ base + i + 1 = omega arith in
      let m : suc i < length (part base (base + n + 1) w) = omega (arith, length_part base (base + n + 1) w (omega arith)) in
      rw (get_or-part base (base + n + 1) i w (omega arith), get_or-part base (base + n + 1) (suc i) w (omega arith), e) at (chained-at test (part base (base + n + 1) w) h i m)

  -- an order between neighbours is one between any two
  module _ (R : ℕ → ℕ → Type 0) (same : (x : ℕ) → R x x) (both : (x y z : ℕ) → R x y → R y z → R x z)
      (next : (i : ℕ) → i < n → R (get_or w (base + i) 0) (get_or w (base + i + 1) 0)) where
    entries_far : (i k : ℕ) → i + k ≤ n → R (get_or w (base + i) 0) (get_or w (base + (i + k)) 0)
    entries_far i zero h = let e : i + 0 ≡ i = omega arith in rw e (same _)
    entries_far i (suc k) h =
        let e : base + (i + suc k) ≡ base + (i + k) + 1 = omega arith in
        rw e (both _ _ _ (entries_far i k (omega arith)) (next (i + k) (omega arith)))

    entries-last : (i : ℕ) → i < n → R (get_or w (base + i + 1) 0) (get_or w (base + n) 0)
    entries-last i h =
        let e : base + (i + 1) ≡ base + i + 1 = omega arith in
        let f : i + 1 + (n - (i + 1)) ≡ n = omega arith in
        rw (e, f) at (entries_far (i + 1) (n - (i + 1)) (omega arith))

  pub record Rising : Type 0 where
    pub next : (i : ℕ) → i < n → get_or w (base + i) 0 ≤ get_or w (base + i + 1) 0
    pub under : (i : ℕ) → i < n → get_or w (base + i + 1) 0 ≤ get_or w (base + n) 0

  pub rising-table : base + n < length w → rises (part base (base + n + 1) w) ≡ true → Rising
  rising-table r h =
      let next : (i : ℕ) → i < n → get_or w (base + i) 0 ≤ get_or w (base + i + 1) 0 = λ i k. leb-true _ _ (entries_next (λ a x. leb a x) r h i k) in
      record { next = next; under = entries-last (λ a x. a ≤ x) le_refl (λ x y z a b. omega arith) next }

  pub record Falling (by : ℕ) : Type 0 where
    pub next : (i : ℕ) → i < n → get_or w (base + i + 1) 0 + by ≤ get_or w (base + i) 0
    pub under : (i : ℕ) → i ≤ n → get_or w (base + i) 0 ≤ get_or w base 0
    pub above : (i : ℕ) → i < n → get_or w (base + n) 0 ≤ get_or w (base + i + 1) 0

  pub falling-table : (by : ℕ) → base + n < length w → falls by (part base (base + n + 1) w) ≡ true → Falling by
  falling-table by r h =
      let next : (i : ℕ) → i < n → get_or w (base + i + 1) 0 + by ≤ get_or w (base + i) 0 = λ i k. leb-true _ _ (entries_next (λ a x. leb (x + by) a) r h i k) in
      let order : (i : ℕ) → i < n → get_or w (base + i + 1) 0 ≤ get_or w (base + i) 0 = λ i k. omega (arith, next i k) in
      let both : (x y z : ℕ) → y ≤ x → z ≤ y → z ≤ x = λ x y z a b. omega arith in
      record {
        next = next;
        under = λ i k. rw (zero-add i, add-zero base) at (entries_far (λ a x. x ≤ a) le_refl both order 0 i (omega arith));
        above = entries-last (λ a x. x ≤ a) le_refl both order;
      }

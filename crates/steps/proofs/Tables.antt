-- Tables and counted tests from what holds at each index.
use mathlib.Core.Path.{◌≡◌, refl, sym, subst}
use Prim.Native.Nat.{ℕ, zero, suc, ◌+◌, ◌≤◌, ◌<◌}
use native.Mathlib.Nat.{le_refl}
use mathlib.Core.List.{List, [], ◌∷◌}
use mathlib.Core.Bool.{Bool, true}
use native.Mathlib.Omega.{arith}
use native.Mathlib.Decide.{ℕ_discrete}
use borrow.Author.Tests.{le-leb}
use lib.ListN.{length, get_or}
use lib.Dec.{leb}
use Rattle.lists.specs.Lists.{part}
use Rattle.lists.proofs.Parts.{get_or-part}
use Rattle.lists.proofs.Runs.{length_part}
use Rattle.lists.proofs.Same.{and_left, and_right}
use Rattle.layout.specs.Tables.{chain, chained, rises, falls, for_all}
use Rattle.layout.proofs.Entries.{Rising, rising-table}

-- ---- indexes below a count

-- one index more
pub below_more : (P : ℕ → Type 0) (n : ℕ) → ((i : ℕ) → i < n → P i) → P n → (i : ℕ) → i < suc n → P i
below_more P n h k i b = go (ℕ_discrete i n)
  where
    go : Dec (i ≡ n) → P i
    go (yes e) = subst P (sym e) k
    go (no e) = h i (omega arith)

pub for_all-at : (test : ℕ → Bool) (n : ℕ) → for_all test n ≡ true → (i : ℕ) → i < n → test i ≡ true
unfolding for_all
for_all-at test zero h i b = absurd (omega arith)
for_all-at test (suc n) h i b =
    below_more (λ i. test i ≡ true) n (for_all-at test n (and_right (test n) (for_all test n) h)) (and_left (test n) (for_all test n) h) i b

pub for_all-of : (test : ℕ → Bool) (n : ℕ) → ((i : ℕ) → i < n → test i ≡ true) → for_all test n ≡ true
unfolding for_all
for_all-of test zero h = refl
for_all-of test (suc n) h = rw (h n (omega arith), for_all-of test n (λ i b. h i (omega arith)))

-- ---- tables

chained-of : (test : ℕ → ℕ → Bool) (l : List ℕ) → ((i : ℕ) → suc i < length l → test (get_or l i 0) (get_or l (suc i) 0) ≡ true) → chained test l ≡ true
unfolding chained chain
chained-of test [] h = refl
chained-of test (a ∷ []) h = refl
chained-of test (a ∷ x ∷ l) h = rw (h 0 (omega arith), chained-of test (x ∷ l) (λ i b. h (suc i) (omega arith)))

-- n + 1 entries from index `base` on
module _ (base n : ℕ) (w : List ℕ) (r : base + n < length w) where
  table_of : (test : ℕ → ℕ → Bool) → ((i : ℕ) → i < n → test (get_or w (base + i) 0) (get_or w (base + i + 1) 0) ≡ true)
      → chained test (part base (base + n + 1) w) ≡ true
  table_of test h =
      let m = length_part base (base + n + 1) w (omega arith) in
      chained-of test (part base (base + n + 1) w)
      (λ i b.
      let e : base + suc i ≡ base + i + 1 = omega arith in
      rw (get_or-part base (base + n + 1) i w (omega arith), get_or-part base (base + n + 1) (suc i) w (omega arith), e) (h i (omega arith)))

  pub rising-of : ((i : ℕ) → i < n → get_or w (base + i) 0 ≤ get_or w (base + i + 1) 0) → rises (part base (base + n + 1) w) ≡ true
  rising-of h = table_of (λ a x. leb a x) (λ i b. le-leb _ _ (h i b))

  pub falling-of : (by : ℕ) → ((i : ℕ) → i < n → get_or w (base + i + 1) 0 + by ≤ get_or w (base + i) 0) → falls by (part base (base + n + 1) w) ≡ true
  falling-of by h = table_of (λ a x. leb (x + by) a) (λ i b. le-leb _ _ (h i b))

module _ {base n : ℕ} {w : List ℕ} (t : Rising base n w) (d : ℕ) (h : d ≤ n) where
  pub rising-last : get_or w (base + d) 0 ≤ get_or w (base + n) 0
  rising-last = below_more (λ i. get_or w (base + i) 0 ≤ get_or w (base + n) 0) n (λ i k. omega (arith, t.next i k, t.under i k)) (le_refl _) d (omega arith)

  -- the table up to entry d
  pub rising-within : base + n < length w → (i : ℕ) → i < d → get_or w (base + i + 1) 0 ≤ get_or w (base + d) 0
  rising-within r = (rising-table base d w (omega arith) (rising-of base d w (omega arith) (λ i k. t.next i (omega arith)))).under

-- A line with one more beside another.
use mathlib.Core.Path.{◌≡◌, refl, ap₂, ◌∙◌}
use Prim.Native.Nat.{ℕ, ◌+◌, ◌<◌}
use mathlib.Core.List.{List, [], ◌∷◌}
use native.Mathlib.Omega.{arith}
use lib.Dec.{eqb}
use Rattle.lists.specs.Lists.{pick, total}
use Rattle.model_orders.specs.Bag.{one, count}
use Rattle.model_orders.specs.Graph.{Graph, kids, waits, ParentsFirst}
use Rattle.model_orders.proofs.Bags.{Same, same, other, same_or, one_same}
use Rattle.model_orders.specs.Copies.{beside}

-- sums of what is alike on a list
pub total_ext : (f k : ℕ → ℕ) (l : List ℕ) → ((i : ℕ) → 0 < count i l → f i ≡ k i) → total f l ≡ total k l
unfolding total count
total_ext f k [] h = refl
total_ext f k (x ∷ l) h = ap₂ ◌+◌ (h x (omega (arith, one_same x))) (total_ext f k l (λ i m. h i (omega arith)))

module _ (x y : ℕ) where
  pub beside-total : (f : ℕ → ℕ) (l : List ℕ) → 0 < count x l → total f (beside x y l) ≡ total f l + f y
  unfolding beside total count
  beside-total f [] h = absurd (omega arith)
  beside-total f (z ∷ l) h = go (beside-total f l) (same_or x z)
    where
      go : (0 < count x l → total f (beside x y l) ≡ total f l + f y) → Same x z → total f (pick (eqb x z) (z ∷ y ∷ l) (z ∷ beside x y l)) ≡ (f z + total f l) + f y
      go i (same _ b _) = rw b (omega arith)
      go i (other _ b o) = rw b (omega (arith, i (omega arith)))

  pub beside-count : (c : ℕ) (l : List ℕ) → 0 < count x l → count c (beside x y l) ≡ count c l + one c y
  unfolding beside count
  beside-count c [] h = absurd (omega arith)
  beside-count c (z ∷ l) h = go (beside-count c l) (same_or x z)
    where
      go : (0 < count x l → count c (beside x y l) ≡ count c l + one c y) → Same x z → count c (pick (eqb x z) (z ∷ y ∷ l) (z ∷ beside x y l)) ≡ (one c z + count c l) + one c y
      go i (same _ b _) = rw b (omega arith)
      go i (other _ b o) = rw b (omega (arith, i (omega arith)))

-- lines of graphs whose nodes there have the same children
pub first-ext : (g h : Graph) (l : List ℕ) → ((q c : ℕ) → 0 < count q l → count c (kids h q) ≡ count c (kids g q)) → ParentsFirst g l → ParentsFirst h l
unfolding ParentsFirst count waits
first-ext g h [] e f = tt
first-ext g h (x ∷ l) e f =
    (total_ext (λ q. count x (kids h q)) (λ q. count x (kids g q)) (x ∷ l) (λ q k. e q x k) ∙ f.0, first-ext g h l (λ q c k. e q c (omega arith)) f.1)

-- Bags of numbers: one more at the end, and a store.
use mathlib.Core.Path.{◌≡◌}
use Prim.Native.Nat.{ℕ, zero, suc, ◌+◌, ◌<◌}
use mathlib.Core.List.{List, [], ◌∷◌, ◌++◌}
use native.Mathlib.Omega.{arith}
use lib.ListN.{length, get_or, set, length-set}
use lib.Seq.{get_or-set_other}
use Rattle.model_orders.specs.Bag.{one, count}
use Rattle.model_orders.proofs.Bags.{count-append}

pub count-snoc : (x y : ℕ) (l : List ℕ) → count x (l ++ (y ∷ [])) ≡ one x y + count x l
unfolding count
count-snoc x y l = omega (arith, count-append x l (y ∷ []))

-- a store takes the old number out and puts the new one in
pub count_set : (x : ℕ) (l : List ℕ) (i v : ℕ) → i < length l → count x (set l i v) + one x (get_or l i 0) ≡ count x l + one x v
unfolding count
count_set x [] i v h = absurd (omega arith)
count_set x (y ∷ l) zero v h = omega arith
count_set x (y ∷ l) (suc i) v h = omega (arith, count_set x l i v (omega arith))

-- a number moved from place j to place i, and v stored at j: as if v were stored at i
pub count-moved : (x : ℕ) (l : List ℕ) (i j v : ℕ) → i < length l → j < length l → (j ≡ i → ⊥) → count x (set (set l i (get_or l j 0)) j v) ≡ count x (set l i v)
count-moved x l i j v h k d =
    omega (
      arith,
      length-set l i (get_or l j 0),
      count_set x (set l i (get_or l j 0)) j v (omega (arith, length-set l i (get_or l j 0))),
      rw (get_or-set_other l i j (get_or l j 0) 0 d) at (count_set x (set l i (get_or l j 0)) j v (omega (arith, length-set l i (get_or l j 0)))),
      count_set x l i (get_or l j 0) h,
      count_set x l i v h,
    )

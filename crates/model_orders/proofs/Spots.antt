-- Positions in an order.
use mathlib.Core.Path.{◌≡◌, refl, sym}
use Prim.Native.Nat.{ℕ, zero, suc, ◌≤◌, ◌<◌}
use mathlib.Core.List.{List, [], ◌∷◌, map}
use native.Mathlib.Omega.{arith}
use lib.ListN.{length, get_or}
use lib.Dec.{eqb}
use Rattle.lists.specs.Lists.{pick, first_that}
use Rattle.model_orders.specs.Bag.{count}
use Rattle.model_orders.specs.Graph.{Once}
use Rattle.model_orders.specs.Space.{spot}
use Rattle.model_orders.proofs.Bags.{Same, same, other, same_or, one_same, one-eq}

pub map_at : (f : ℕ → ℕ) (l : List ℕ) (i : ℕ) → i < length l → get_or (map f l) i 0 ≡ f (get_or l i 0)
map_at f [] i h = absurd (omega arith)
map_at f (x ∷ l) zero h = refl
map_at f (x ∷ l) (suc i) h = map_at f l i (omega arith)

pub spot_in : (o : List ℕ) (x : ℕ) → 0 < count x o → spot o x < length o
unfolding spot first_that count
spot_in [] x h = omega arith
spot_in (y ∷ o) x h = go (spot_in o x) (same_or x y)
  where
    go : (0 < count x o → first_that (eqb x) o < length o) → Same x y → pick (eqb x y) 0 (suc (first_that (eqb x) o)) < suc (length o)
    go r (same _ b _) = rw b (omega arith)
    go r (other _ b z) = rw b (omega (arith, r (omega arith)))

pub spot-at : (o : List ℕ) (x : ℕ) → 0 < count x o → get_or o (spot o x) 0 ≡ x
unfolding spot first_that count
spot-at [] x h = absurd (omega arith)
spot-at (y ∷ o) x h = go (spot-at o x) (same_or x y)
  where
    go : (0 < count x o → get_or o (first_that (eqb x) o) 0 ≡ x) → Same x y → get_or (y ∷ o) (pick (eqb x y) 0 (suc (first_that (eqb x) o))) 0 ≡ x
    go r (same e b _) = rw b (sym e)
    go r (other _ b z) = rw b (r (omega arith))

pub count_at : (o : List ℕ) (i : ℕ) → i < length o → 0 < count (get_or o i 0) o
unfolding count
count_at [] i h = omega arith
count_at (x ∷ o) zero h = omega (arith, one_same x)
count_at (x ∷ o) (suc i) h = omega (arith, count_at o i (omega arith))

once-rest : (x : ℕ) (o : List ℕ) → Once (x ∷ o) → Once o
unfolding Once count
once-rest x o h c = omega (arith, h c)

pub at-spot : (o : List ℕ) → Once o → (i : ℕ) → i < length o → spot o (get_or o i 0) ≡ i
unfolding spot first_that count Once
at-spot [] u i h = absurd (omega arith)
at-spot (x ∷ o) u zero h = go (same_or x x)
  where
    go : Same x x → pick (eqb x x) 0 (suc (first_that (eqb x) o)) ≡ 0
    go (same _ b _) = rw b
    go (other d _ _) = absurd (d refl)
at-spot (x ∷ o) u (suc i) h = go (at-spot o (once-rest x o u) i (omega arith)) (same_or (get_or o i 0) x)
  where
    twice : get_or o i 0 ≡ x → 1 < count (get_or o i 0) (x ∷ o)
    twice e = omega (arith, one-eq (get_or o i 0) x e, count_at o i (omega arith))

    only : count (get_or o i 0) (x ∷ o) ≤ 1
    only = u (get_or o i 0)

    go : first_that (eqb (get_or o i 0)) o ≡ i → Same (get_or o i 0) x → pick (eqb (get_or o i 0) x) 0 (suc (first_that (eqb (get_or o i 0)) o)) ≡ suc i
    go r (same e _ _) = absurd (omega (arith, twice e, only))
    go r (other _ b _) = rw (b, r)

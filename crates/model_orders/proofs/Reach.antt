-- What a root reaches.
use mathlib.Core.Path.{◌≡◌, refl}
use Prim.Native.Nat.{ℕ, zero, suc, ◌+◌, ◌≤◌, ◌<◌}
use mathlib.Core.List.{List, [], ◌∷◌, ◌++◌}
use mathlib.Core.Bool.{Bool, true, false}
use native.Mathlib.Omega.{arith}
use native.Mathlib.Decide.{dec_le}
use lib.ListN.{length}
use lib.Dec.{eqb}
use Rattle.lists.specs.Lists.{pick, total}
use Rattle.model_orders.specs.Bag.{count}
use Rattle.model_orders.specs.Graph.{Graph, kids, waits, reached, reach_down, Ranked, Acyclic, Closed, Once, ParentsFirst, Rooted}
use Rattle.model_orders.proofs.Bags.{Same, same, other, same_or, Zero, none, some, zero_or, one_same, one-other, count-append}
use Rattle.model_orders.proofs.Waits.{waits-low}

pub down-above : (g : Graph) (n : ℕ) (marks : List ℕ) (c : ℕ) → n ≤ c → count c (reach_down g n marks) ≡ 0
unfolding reach_down count
down-above g zero marks c h = refl
down-above g (suc i) marks c h = go (down-above g i marks c (omega arith)) (down-above g i (kids g i ++ marks) c (omega arith)) (zero_or (count i marks))
  where
    go : count c (reach_down g i marks) ≡ 0 → count c (reach_down g i (kids g i ++ marks)) ≡ 0 → Zero (count i marks)
        → count c (pick (eqb (count i marks) 0) (reach_down g i marks) (i ∷ reach_down g i (kids g i ++ marks))) ≡ 0
    go a b (none _ e) = rw e a
    go a b (some _ e) = rw e (omega (arith, one-other c i (λ f. omega arith)))

pub down-once : (g : Graph) (n : ℕ) (marks : List ℕ) (c : ℕ) → count c (reach_down g n marks) ≤ 1
unfolding reach_down count
down-once g zero marks c = omega arith
down-once g (suc i) marks c = go (down-once g i marks c) (down-once g i (kids g i ++ marks) c) (zero_or (count i marks)) (same_or c i)
  where
    go : count c (reach_down g i marks) ≤ 1 → count c (reach_down g i (kids g i ++ marks)) ≤ 1 → Zero (count i marks) → Same c i
        → count c (pick (eqb (count i marks) 0) (reach_down g i marks) (i ∷ reach_down g i (kids g i ++ marks))) ≤ 1
    go a b (none _ e) s = rw e a
    go a b (some _ e) (same f _ o) = rw e (omega (arith, down-above g i (kids g i ++ marks) c (omega arith)))
    go a b (some _ e) (other _ _ o) = rw e (omega arith)

pub down-marked : (g : Graph) (n : ℕ) (marks : List ℕ) (c : ℕ) → c < n → 0 < count c marks → 0 < count c (reach_down g n marks)
unfolding reach_down count
down-marked g zero marks c h m = absurd (omega arith)
down-marked g (suc i) marks c h m = go (down-marked g i marks c) (down-marked g i (kids g i ++ marks) c) (zero_or (count i marks)) (same_or c i)
  where
    go : (c < i → 0 < count c marks → 0 < count c (reach_down g i marks)) → (c < i → 0 < count c (kids g i ++ marks) → 0 < count c (reach_down g i (kids g i ++ marks)))
        → Zero (count i marks) → Same c i → 0 < count c (pick (eqb (count i marks) 0) (reach_down g i marks) (i ∷ reach_down g i (kids g i ++ marks)))
    go a b (none z e) (same f _ _) = absurd (omega (arith, rw f at m))
    go a b (none z e) (other f _ _) = rw e (a (omega arith) m)
    go a b (some _ e) (same f _ o) = rw e (omega arith)
    go a b (some _ e) (other f _ _) = rw e (omega (arith, b (omega arith) (omega (arith, count-append c (kids g i) marks))))

pub down-closed : (g : Graph) → Acyclic g → (n : ℕ) (marks : List ℕ) → Closed g (reach_down g n marks)
unfolding reach_down count Closed Ranked
down-closed g y zero marks p c h k = absurd (omega arith)
down-closed g y (suc i) marks p c h k = go (down-closed g y i marks p c) (down-closed g y i (kids g i ++ marks) p c) (zero_or (count i marks)) (same_or p i) h
  where
    go : (0 < count p (reach_down g i marks) → 0 < count c (kids g p) → 0 < count c (reach_down g i marks))
        → (0 < count p (reach_down g i (kids g i ++ marks)) → 0 < count c (kids g p) → 0 < count c (reach_down g i (kids g i ++ marks)))
        → Zero (count i marks) → Same p i
        → 0 < count p (pick (eqb (count i marks) 0) (reach_down g i marks) (i ∷ reach_down g i (kids g i ++ marks)))
        → 0 < count c (pick (eqb (count i marks) 0) (reach_down g i marks) (i ∷ reach_down g i (kids g i ++ marks)))
    go a b (none _ e) s m = rw e (a (rw e at m) k)
    go a b (some _ e) (same f _ o) m =
        let k' : 0 < count c (kids g i) = rw f at k in
        rw e (omega (arith, down-marked g i (kids g i ++ marks) c (y i c k') (omega (arith, count-append c (kids g i) marks))))
    go a b (some _ e) (other _ _ o) m = let m' = rw e at m in rw e (omega (arith, b (omega arith) k))

pub down-from : (g : Graph) (n : ℕ) (marks : List ℕ) (c : ℕ) → 0 < count c (reach_down g n marks) → 0 < count c marks + waits g (reach_down g n marks) c
unfolding reach_down count waits total
down-from g zero marks c h = absurd (omega arith)
down-from g (suc i) marks c h = go (down-from g i marks c) (down-from g i (kids g i ++ marks) c) (zero_or (count i marks)) (same_or c i) h
  where
    go : (0 < count c (reach_down g i marks) → 0 < count c marks + waits g (reach_down g i marks) c)
        → (0 < count c (reach_down g i (kids g i ++ marks)) → 0 < count c (kids g i ++ marks) + waits g (reach_down g i (kids g i ++ marks)) c)
        → Zero (count i marks) → Same c i
        → 0 < count c (pick (eqb (count i marks) 0) (reach_down g i marks) (i ∷ reach_down g i (kids g i ++ marks)))
        → 0 < count c marks + waits g (pick (eqb (count i marks) 0) (reach_down g i marks) (i ∷ reach_down g i (kids g i ++ marks))) c
    go a b (none _ e) s m = rw e (a (rw e at m))
    go a b (some z e) (same f _ o) m = rw (e, f) (omega arith)
    go a b (some _ e) (other _ _ o) m = let m' = rw e at m in rw e (omega (arith, b (omega arith), count-append c (kids g i) marks))

pub down-below : (g : Graph) (n : ℕ) (marks : List ℕ) (c : ℕ) → 0 < count c (reach_down g n marks) → c < n
down-below g n marks c h = go (dec_le n c)
  where
    go : Dec (n ≤ c) → c < n
    go (yes k) = absurd (omega (arith, down-above g n marks c k))
    go (no k) = omega arith

pub down-first : (g : Graph) → Acyclic g → (n : ℕ) (marks : List ℕ) → ParentsFirst g (reach_down g n marks)
unfolding reach_down ParentsFirst count
down-first g y zero marks = tt
down-first g y (suc i) marks = go (down-first g y i marks) (down-first g y i (kids g i ++ marks)) (zero_or (count i marks))
  where
    low : (p : ℕ) → 0 < count p (i ∷ reach_down g i (kids g i ++ marks)) → p ≤ i
    low p h = cut (same_or p i)
      where
        cut : Same p i → p ≤ i
        cut (same e _ _) = omega arith
        cut (other _ _ o) = omega (arith, down-below g i (kids g i ++ marks) p (omega arith))

    go : ParentsFirst g (reach_down g i marks) → ParentsFirst g (reach_down g i (kids g i ++ marks)) → Zero (count i marks)
        → ParentsFirst g (pick (eqb (count i marks) 0) (reach_down g i marks) (i ∷ reach_down g i (kids g i ++ marks)))
    go a b (none _ e) = rw e a
    go a b (some _ e) = rw e (waits-low (λ j. j) g (i ∷ reach_down g i (kids g i ++ marks)) i y low, b)

pub reached-rooted : (g : Graph) (root : ℕ) → Acyclic g → Rooted g (reached g root) root
unfolding reached Once count
reached-rooted g root y = record {
  once = down-once g (suc root) (root ∷ []);
  closed = down-closed g y (suc root) (root ∷ []);
  root_in = down-marked g (suc root) (root ∷ []) root (omega arith) (omega (arith, one_same root));
  root-free = waits-low (λ j. j) g (reach_down g (suc root) (root ∷ [])) root y (λ p h. omega (arith, down-below g (suc root) (root ∷ []) p h));
  others = λ c h n. omega (arith, down-from g (suc root) (root ∷ []) c h, one-other c root n);
}

pub reached-first : (g : Graph) → Acyclic g → (root : ℕ) → ParentsFirst g (reached g root)
unfolding reached
reached-first g y root = down-first g y (suc root) (root ∷ [])

pub reached-low : (g : Graph) (root c : ℕ) → 0 < count c (reached g root) → c < suc root
unfolding reached
reached-low g root c h = down-below g (suc root) (root ∷ []) c h

down-few : (g : Graph) (n : ℕ) (marks : List ℕ) → length (reach_down g n marks) ≤ n
unfolding reach_down
down-few g zero marks = omega arith
down-few g (suc i) marks = go (eqb (count i marks) 0) (down-few g i marks) (down-few g i (kids g i ++ marks))
  where
    go : (b : Bool) → length (reach_down g i marks) ≤ i → length (reach_down g i (kids g i ++ marks)) ≤ i
        → length (pick b (reach_down g i marks) (i ∷ reach_down g i (kids g i ++ marks))) ≤ suc i
    go true a b = omega arith
    go false a b = omega arith

pub reached-few : (g : Graph) (root : ℕ) → length (reached g root) ≤ suc root
unfolding reached
reached-few g root = down-few g (suc root) (root ∷ [])

-- Sums over those before one in an order, of any function of theirs.
use mathlib.Core.Path.{◌≡◌, refl, sym}
use Prim.Native.Nat.{ℕ, ◌+◌, ◌≤◌, ◌<◌}
use mathlib.Core.List.{List, [], ◌∷◌}
use native.Mathlib.Omega.{arith}
use lib.Dec.{eqb}
use Rattle.lists.specs.Lists.{pick, total}
use Rattle.model_orders.specs.Bag.{count}
use Rattle.model_orders.specs.Graph.{Graph, kids, waits, ParentsFirst, Rooted}
use Rattle.model_orders.specs.Table.{before}
use Rattle.model_orders.proofs.Bags.{Same, same, other, same_or, count-here, total-bag}
use Rattle.model_orders.proofs.Waits.{waits-part}

module _ (f : ℕ → ℕ) where
  pub before_here : (x : ℕ) (o : List ℕ) → before f (x ∷ o) x ≡ 0
  unfolding before
  before_here x o = go (same_or x x)
    where
      go : Same x x → pick (eqb x x) 0 (f x + before f o x) ≡ 0
      go (same _ e _) = rw e
      go (other h _ _) = absurd (h refl)

  pub before-next : (x : ℕ) (o : List ℕ) (i : ℕ) → (i ≡ x → ⊥) → before f (x ∷ o) i ≡ f x + before f o i
  unfolding before
  before-next x o i h = go (same_or i x)
    where
      go : Same i x → pick (eqb i x) 0 (f x + before f o i) ≡ f x + before f o i
      go (same e _ _) = absurd (h e)
      go (other _ e _) = rw e

  pub before-most : (o : List ℕ) (i : ℕ) → before f o i ≤ total f o
  unfolding total
  before-most [] i = unfold before in omega arith
  before-most (x ∷ o) i = go (before-most o i) (same_or i x)
    where
      go : before f o i ≤ total f o → Same i x → before f (x ∷ o) i ≤ f x + total f o
      go h (same e _ _) = rw e (omega (arith, before_here x o))
      go h (other n _ _) = omega (arith, before-next x o i n)

  -- with one of them, those before it are in the sum
  pub before-end : (o : List ℕ) (i : ℕ) → 0 < count i o → before f o i + f i ≤ total f o
  unfolding total count
  before-end [] i h = absurd (omega arith)
  before-end (x ∷ o) i h = go (before-end o i) (same_or i x)
    where
      go : (0 < count i o → before f o i + f i ≤ total f o) → Same i x → before f (x ∷ o) i + f i ≤ f x + total f o
      go r (same e _ _) = rw e (omega (arith, before_here x o))
      go r (other n _ z) = omega (arith, before-next x o i n, r (omega arith))

  -- a child has its parent and all those before its parent before it
  pub before-behind : (g : Graph) (o : List ℕ) → ParentsFirst g o → (p c : ℕ) → 0 < count p o → 0 < count c (kids g p) → before f o p + f p ≤ before f o c
  unfolding ParentsFirst count
  before-behind g [] t p c h k = absurd (omega arith)
  before-behind g (x ∷ o) t p c h k = go (before-behind g o t.1 p c) (same_or p x)
    where
      apart : c ≡ x → ⊥
      apart e = omega (arith, waits-part g p x (x ∷ o) h, rw e at k, t.0)

      go : (0 < count p o → 0 < count c (kids g p) → before f o p + f p ≤ before f o c) → Same p x → before f (x ∷ o) p + f p ≤ before f (x ∷ o) c
      go i (same e _ _) = rw e (omega (arith, before_here x o, before-next x o c apart))
      go i (other n _ z) = omega (arith, before-next x o p n, before-next x o c apart, i (omega arith) k)

  -- nothing is before the root
  pub before_root : (g : Graph) (nodes : List ℕ) (root : ℕ) (o : List ℕ) → Rooted g nodes root → ((c : ℕ) → count c o ≡ count c nodes) → ParentsFirst g o → before f o root ≡ 0
  unfolding ParentsFirst waits
  before_root g nodes root [] r h t = unfold before in refl
  before_root g nodes root (x ∷ o) r h t = go (same_or root x)
    where
      go : Same root x → before f (x ∷ o) root ≡ 0
      go (same e _ _) = rw e (before_here x o)
      go (other n _ _) = absurd (omega (arith, t.0, total-bag (λ p. count x (kids g p)) (x ∷ o) nodes h, r.others x (omega (arith, h x, count-here x o)) (λ e. n (sym e))))

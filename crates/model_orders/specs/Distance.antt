-- docs/RULES.md, 7.3 and 7.4: the weight of a link, the least sum of weights over all paths from the root, and the orders.
use Rattle.std.specs.Prelude.{ℕ, suc, ◌+◌, min, ◌≤◌, ◌≡◌, List, [], ◌∷◌, get_or, set, replicate}
use Rattle.lists.specs.Lists.{total}
use Rattle.big_endian.specs.BigEndian.{capacity}
use Rattle.model_orders.specs.Object.{Link}
use Rattle.model_orders.specs.Graph.{Graph, reached}
use Rattle.model_orders.specs.Order.{order_by}

abbrev pub weight : Graph → Link → ℕ
weight g l = g.size l.child + capacity l.slot.width

-- ---- paths

pub data In (l : Link) : List Link → Type 0 where
  here : {m : Link} {ls : List Link} → l ≡ m → In l (m ∷ ls)
  there : {m : Link} {ls : List Link} → In l ls → In l (m ∷ ls)

-- a path from the root to c, its links' weights adding up to d
pub data Path (g : Graph) (wt : Link → ℕ) (root : ℕ) : ℕ → ℕ → Type 0 where
  start : {c d : ℕ} → c ≡ root → d ≡ 0 → Path g wt root c d
  along : {p c e d : ℕ} (l : Link) → Path g wt root p e → In l (g.links p) → c ≡ l.child → d ≡ e + wt l → Path g wt root c d

-- d is the least sum over all paths from the root to c
pub record Least (g : Graph) (wt : Link → ℕ) (root c d : ℕ) : Type 0 where
  pub path : Path g wt root c d
  pub least : (e : ℕ) → Path g wt root c e → d ≤ e

-- ---- the same, computed along a list that has parents before children

-- one object's links taken up in the sums; d is the object's own
unfoldable pub relax : ℕ → (Link → ℕ) → ℕ → List Link → List ℕ → List ℕ
relax far wt d [] ds = ds
relax far wt d (l ∷ ls) ds = relax far wt d ls (set ds l.child (min (get_or ds l.child far) (d + wt l)))

unfoldable pub relax_all : ℕ → (Link → ℕ) → Graph → List ℕ → List ℕ → List ℕ
relax_all far wt g [] ds = ds
relax_all far wt g (p ∷ o) ds = relax_all far wt g o (relax far wt (get_or ds p far) (g.links p) ds)

-- n sums, of which only the root's is known at first
unfoldable pub distances_by : ℕ → (Link → ℕ) → Graph → List ℕ → ℕ → ℕ → List ℕ
distances_by far wt g o n root = relax_all far wt g o (set (replicate n far) root 0)

-- more than any path's sum
unfoldable pub beyond : (Link → ℕ) → Graph → List ℕ → ℕ
beyond wt g o = suc (total (λ p. total wt (g.links p)) o)

-- along a list of nodes whose ids are below n
unfoldable pub distance_along : Graph → List ℕ → ℕ → ℕ → ℕ → ℕ
distance_along g o n root c =
    let far = beyond (weight g) g o in
    get_or (distances_by far (weight g) g o n root) c far

unfoldable pub distance : Graph → ℕ → ℕ → ℕ
distance g root = distance_along g (reached g root) (suc root) root

-- ---- the orders

-- the plain order: next is the one that has been ready longest
unfoldable pub kahn_order : Graph → ℕ → List ℕ
kahn_order g root = order_by (λ i. 0) g root

-- the distance order: next is the ready one of least distance, of equals the one that has been ready longest
unfoldable pub distance_order : Graph → ℕ → List ℕ
distance_order g root = order_by (distance g root) g root

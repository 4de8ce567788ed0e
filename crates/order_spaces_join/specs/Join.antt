-- docs/RULES.md, 7.10, in the work memory: the sets of positions outside space 0 that narrow links join, by the boss of each position. Between two orders
-- the area of bosses is free.
use Rattle.std.specs.Prelude.{ℕ, ◌+◌, ◌≤◌, ◌<◌, ◌≡◌, List, [], ◌∷◌, map, get_or, eqb}
use Rattle.lists.specs.Lists.{pick}
use Rattle.regions.specs.Region.{region, ceiling, Kept}
use Rattle.model_orders.specs.Graph.{Graph}
use Rattle.model_orders.specs.Labels.{join}
use Rattle.model_orders.specs.Space.{narrow_kids}
use Rattle.work.specs.Views.{order_in, spots_in, bosses_in}
use Rattle.work.specs.declared.Areas.{Areas}
use Rattle.order_graph.specs.Graph.{graph_on}
use Rattle.order_merge.specs.Bosses.{roots, Falls}
use Rattle.order_spaces_near.specs.Near.{Ordered}

-- ---- sets: positions s, labels l

-- position x joined with those of the nodes of a list that are not at position 0
unfoldable pub tied : List ℕ → ℕ → List ℕ → List ℕ → List ℕ
tied s x [] l = l
tied s x (c ∷ cs) l = tied s x cs (pick (eqb (get_or s c 0) 0) l (join x (get_or s c 0) l))

unfoldable pub tied_all : Graph → List ℕ → List ℕ → List ℕ → List ℕ
tied_all g s [] l = l
tied_all g s (x ∷ o) l = tied_all g s o (pick (eqb (get_or s x 0) 0) l (tied s (get_or s x 0) (narrow_kids g x) l))

-- the positions that the nodes of an order stand at
abbrev pub own_bosses : List ℕ → List ℕ → List ℕ
own_bosses s o = map (λ x. get_or s x 0) o

-- ---- what the steps ask

-- no node of the order stands behind its own position
pub record Joining (a : Areas) (n r : ℕ) (w : List ℕ) : Type 0 where
  pub ordered : Ordered a n r w
  pub spots : ceiling (spots_in a w) ≤ r
  pub low : (t : ℕ) → t < r → get_or (spots_in a w) (get_or (order_in a r w) t 0) 0 ≤ t

pub record Tying (a : Areas) (n r : ℕ) (w : List ℕ) : Type 0 where
  pub ordered : Ordered a n r w
  pub spots : ceiling (spots_in a w) ≤ r
  pub falls : Falls (bosses_in a r w)

-- ---- what the steps do

pub record BossesSet (a : Areas) (r : ℕ) (w w' : List ℕ) : Type 0 where
  pub kept : Kept a.bosses a.order w w'
  pub bosses : bosses_in a r w' ≡ own_bosses (spots_in a w) (order_in a r w)

-- the sets of positions x and y are one, in r words from b on
pub record JoinedAt (b r x y : ℕ) (w w' : List ℕ) : Type 0 where
  pub kept : Kept b (b + r) w w'
  pub falls : Falls (region b r w')
  pub one : roots (region b r w') ≡ join x y (roots (region b r w))

pub record TiedLinks (a : Areas) (n r i x : ℕ) (w w' : List ℕ) : Type 0 where
  pub kept : Kept a.bosses a.order w w'
  pub falls : Falls (bosses_in a r w')
  pub labels : roots (bosses_in a r w') ≡ tied (spots_in a w) x (narrow_kids (graph_on a n w) i) (roots (bosses_in a r w))

pub record TiedAlong (a : Areas) (n r : ℕ) (w w' : List ℕ) : Type 0 where
  pub kept : Kept a.bosses a.order w w'
  pub falls : Falls (bosses_in a r w')
  pub labels : roots (bosses_in a r w') ≡ tied_all (graph_on a n w) (spots_in a w) (order_in a r w) (roots (bosses_in a r w))

pub record SetsJoined (a : Areas) (n r : ℕ) (w w' : List ℕ) : Type 0 where
  pub kept : Kept a.bosses a.order w w'
  pub falls : Falls (bosses_in a r w')
  pub labels : roots (bosses_in a r w') ≡ tied_all (graph_on a n w) (spots_in a w) (order_in a r w) (roots (own_bosses (spots_in a w) (order_in a r w)))

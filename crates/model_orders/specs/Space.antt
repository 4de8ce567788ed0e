-- docs/RULES.md, 7.10 to 7.12: which objects belong together, over an order that has parents before children, and the order by spaces. Only positions
-- in the order are compared; ids are told apart and never ordered.
use Rattle.std.specs.Prelude.{ℕ, ◌+◌, ◌*◌, ◌<◌, ◌≡◌, List, [], ◌∷◌, ◌++◌, map, Bool, true, not, get_or, eqb}
use Rattle.lists.specs.Lists.{pick, first_that, Exactly}
use Rattle.model_orders.specs.Object.{Link, widest}
use Rattle.model_orders.specs.Bag.{count}
use Rattle.model_orders.specs.Graph.{Graph, ParentsFirst, Rooted}
use Rattle.model_orders.specs.Distance.{In, distance_order}
use Rattle.model_orders.specs.Labels.{join, numbers}

-- only width 4 parts spaces
unfoldable pub narrow : Link → Bool
narrow l = not (eqb l.slot.width widest)

-- the position of x in an order
unfoldable pub spot : List ℕ → ℕ → ℕ
spot o x = first_that (eqb x) o

-- ---- the relations

-- a narrow link leads from x to y
pub record Narrow (g : Graph) (x y : ℕ) : Type 0 where
  pub link : Link
  pub of : In link (g.links x)
  pub narrows : narrow link ≡ true
  pub child : y ≡ link.child

-- space 0: narrow links alone lead to c from the root
pub data Near (g : Graph) (root : ℕ) : ℕ → Type 0 where
  first : {c : ℕ} → c ≡ root → Near g root c
  along : {p c : ℕ} → Near g root p → Narrow g p c → Near g root c

-- x and y are of the order and outside space 0, and a narrow link leads from x to y
pub record Tied (g : Graph) (o : List ℕ) (root x y : ℕ) : Type 0 where
  pub from : 0 < count x o
  pub to : 0 < count y o
  pub far : Near g root x → ⊥
  pub away : Near g root y → ⊥
  pub narrow : Narrow g x y

-- narrow links, followed either way, join x and y outside space 0
pub data Joined (g : Graph) (o : List ℕ) (root x : ℕ) : ℕ → Type 0 where
  alone : {y : ℕ} → x ≡ y → Joined g o root x y
  down : {p y : ℕ} → Joined g o root x p → Tied g o root p y → Joined g o root x y
  up : {p y : ℕ} → Joined g o root x p → Tied g o root y p → Joined g o root x y

-- one space: both in space 0, or joined outside it
pub data Together (g : Graph) (o : List ℕ) (root x y : ℕ) : Type 0 where
  within : Near g root x → Near g root y → Together g o root x y
  joined : Joined g o root x y → Together g o root x y

-- the numbers of spaces: 0 for space 0; outside it one for those that are joined and for no others; none left out; and of two spaces the one with the
-- earliest member has the lower: a member d before all of the other's
pub record Numbers (g : Graph) (o : List ℕ) (root : ℕ) (number : ℕ → ℕ) : Type 0 where
  pub near : (x : ℕ) → 0 < count x o → Exactly (number x ≡ 0) (Near g root x)
  pub same : (x y : ℕ) → 0 < count x o → 0 < count y o → (Near g root x → ⊥) → Exactly (number x ≡ number y) (Joined g o root x y)
  pub full : (x n : ℕ) → 0 < count x o → n < number x → (y : ℕ) × (0 < count y o) × (number y ≡ n)
  pub rises :
      (x y d : ℕ) → 0 < count x o → 0 < count y o → Together g o root x d → ((e : ℕ) → Together g o root y e → spot o d < spot o e)
      → number x < number y

-- ---- the same, computed along an order

unfoldable pub narrow_of : List Link → List ℕ
narrow_of [] = []
narrow_of (l ∷ ls) = pick (narrow l) (l.child ∷ narrow_of ls) (narrow_of ls)

-- the children by narrow links
abbrev pub narrow_kids : Graph → ℕ → List ℕ
narrow_kids g i = narrow_of (g.links i)

-- the marked, and those that narrow links lead to from a marked one, in one pass along the order
unfoldable pub near_from : Graph → List ℕ → List ℕ → List ℕ
near_from g [] m = m
near_from g (p ∷ o) m = near_from g o (pick (eqb (count p m) 0) m (narrow_kids g p ++ m))

unfoldable pub near : Graph → List ℕ → ℕ → List ℕ
near g o root = near_from g o (root ∷ [])

-- at first each object outside space 0 is a set of its own, and space 0 is the set of the root, whose position is 0
abbrev pub own_label : List ℕ → List ℕ → ℕ → ℕ
own_label o m x = pick (eqb (count x m) 0) (spot o x) 0

-- p, outside space 0, is joined with those of its narrow children that are outside too
unfoldable pub join_kids : List ℕ → List ℕ → ℕ → List ℕ → List ℕ → List ℕ
join_kids o m p [] s = s
join_kids o m p (c ∷ cs) s = join_kids o m p cs (pick (eqb (count c m) 0) (join (spot o p) (spot o c) s) s)

unfoldable pub join_all : Graph → List ℕ → List ℕ → List ℕ → List ℕ → List ℕ
join_all g o m [] s = s
join_all g o m (p ∷ ps) s = join_all g o m ps (pick (eqb (count p m) 0) (join_kids o m p (narrow_kids g p) s) s)

-- each position's label, where m is space 0
unfoldable pub labels_by : Graph → List ℕ → List ℕ → List ℕ
labels_by g o m = join_all g o m o (map (own_label o m) o)

abbrev pub labels : Graph → List ℕ → ℕ → List ℕ
labels g o root = labels_by g o (near g o root)

-- the number of each position's space
abbrev pub spaces : Graph → List ℕ → ℕ → List ℕ
spaces g o root = numbers (labels g o root)

abbrev pub space_of : Graph → List ℕ → ℕ → ℕ → ℕ
space_of g o root x = get_or (spaces g o root) (spot o x) 0

-- ---- the order by spaces

-- what a space's number weighs beside a distance
abbrev pub space_weight : ℕ
space_weight = 4294967296

-- the number of each object's space, which goes by the distance order
unfoldable pub space_in : Graph → ℕ → ℕ → ℕ
space_in g root =
    let o = distance_order g root in
    let ns = spaces g o root in
    λ i. get_or ns (spot o i) 0

-- by the distance and the number of the space
abbrev pub space_key : (ℕ → ℕ) → (ℕ → ℕ) → ℕ → ℕ
space_key distance space i = distance i + space i * space_weight

-- ---- what the laws of spaces ask of an order

pub record Sorted (g : Graph) (o : List ℕ) (root : ℕ) : Type 0 where
  pub rooted : Rooted g o root
  pub first : ParentsFirst g o

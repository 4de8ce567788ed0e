-- docs/RULES.md, 7.9 and 7.13 to 7.17: the three orders that a pack tries, and a graph that grows by copies while the order by spaces does not fit. Ids are told
-- apart and never ordered.
use Rattle.std.specs.Prelude.{ℕ, zero, suc, ◌≤◌, ◌≡◌, List, [], ◌∷◌, Bool, true, false, ◌⊎◌, length, eqb, ltb}
use Rattle.lists.specs.Lists.{pick, total}
use Rattle.answer.specs.declared.Overflow.{Overflow}
use Rattle.model_orders.specs.Object.{Link}
use Rattle.model_orders.specs.Graph.{Graph, waits, reached}
use Rattle.model_orders.specs.Order.{order_of}
use Rattle.model_orders.specs.Distance.{distance_along, kahn_order, distance_order}
use Rattle.model_orders.specs.Space.{space_in, space_key}
use Rattle.model_orders.specs.Table.{unfit, Outcome, placed, overflow, table_of}

-- ---- one copy

-- a link with another child
abbrev pub lead_to : ℕ → Link → Link
lead_to y l = record { slot = l.slot; child = y }

-- the link whose field is at this place leads to y
unfoldable pub redirect : ℕ → ℕ → List Link → List Link
redirect at y [] = []
redirect at y (l ∷ ls) = pick (eqb l.slot.at at) (lead_to y l ∷ ls) (l ∷ redirect at y ls)

-- the child of the link whose field is at this place
unfoldable pub child_at : ℕ → List Link → ℕ
child_at at [] = 0
child_at at (l ∷ ls) = pick (eqb l.slot.at at) l.child (child_at at ls)

-- y is a copy of x, and the link of p whose field is at this place leads to it
unfoldable pub copied : Graph → ℕ → ℕ → ℕ → ℕ → Graph
copied g p at x y =
    record {
      size = λ i. pick (eqb i y) (g.size x) (g.size i);
      links = λ i. pick (eqb i p) (redirect at y (g.links p)) (pick (eqb i y) (g.links x) (g.links i));
    }

-- y put in behind x
unfoldable pub beside : ℕ → ℕ → List ℕ → List ℕ
beside x y [] = []
beside x y (z ∷ l) = pick (eqb x z) (z ∷ y ∷ l) (z ∷ beside x y l)

-- ---- a graph with its copies

-- `line` has the nodes to place, parents before children, each copy behind its original. `origin` gives each node's object, `copies` the
-- object of each copy made. `next` is an id that no node has.
pub record Grown : Type 0 where
  pub graph : Graph
  pub line : List ℕ
  pub origin : ℕ → ℕ
  pub copies : List ℕ
  pub next : ℕ

-- no copy yet: n is above all ids
abbrev pub ungrown : Graph → ℕ → ℕ → Grown
ungrown g n root = record { graph = g; line = reached g root; origin = λ i. i; copies = []; next = n }

-- the child of a reported link
abbrev pub child_of : Grown → Overflow → ℕ
child_of w u = child_at u.field (w.graph.links u.parent.0)

-- a reported link gets a copy of its child
unfoldable pub grow : Overflow → Grown → Grown
grow u w =
    let x = child_of w u in
    let y = w.next in
    record {
      graph = copied w.graph u.parent.0 u.field x y;
      line = beside x y w.line;
      origin = λ i. pick (eqb i y) (w.origin x) (w.origin i);
      copies = w.origin x ∷ w.copies;
      next = suc y;
    }

-- ---- the order by spaces of a graph with its copies

-- `space` gives each object's space; a copy has its original's
unfoldable pub grown_key : (ℕ → ℕ) → ℕ → Grown → ℕ → ℕ
grown_key space root w = space_key (distance_along w.graph w.line w.next root) (λ i. space (w.origin i))

unfoldable pub space_order : (ℕ → ℕ) → ℕ → Grown → List ℕ
space_order space root w = order_of (grown_key space root w) w.graph w.line root

-- the links that do not fit in it
abbrev pub misfits : (ℕ → ℕ) → ℕ → Grown → List Overflow
misfits space root w = unfit w.graph (space_order space root w)

-- ---- the look for an order that fits

-- how it ends: the graph with its copies, and an order of it in which every link fits, or the overflow
pub record Arrangement : Type 0 where
  pub grown : Grown
  pub outcome : Outcome

abbrev pub fitting : Grown → List ℕ → Arrangement
fitting w o = record { grown = w; outcome = placed o }

-- told of the session's object: a copy by its original
abbrev pub told : Grown → Overflow → Overflow
told w u = record { parent = record { 0 = w.origin u.parent.0 }; field = u.field; needed = u.needed }

abbrev pub failing : Grown → Overflow → Arrangement
failing w u = record { grown = w; outcome = overflow (told w u) }

-- by the links of an order that do not fit: it is taken, or the first of them is reported
unfoldable pub try_order : Grown → List ℕ → List Overflow → (Overflow → Arrangement) → Arrangement
try_order w o [] report = fitting w o
try_order w o (u ∷ us) report = report u

-- more than one link leads to the reported link's child
unfoldable pub shared : Grown → Overflow → Bool
shared w u = ltb 1 (waits w.graph w.line (child_of w u))

-- with k copies left
unfoldable pub resolve : (ℕ → ℕ) → ℕ → ℕ → Grown → Arrangement
resolve space root zero w = try_order w (space_order space root w) (misfits space root w) (failing w)
resolve space root (suc k) w =
    try_order w (space_order space root w) (misfits space root w) (λ u. pick (shared w u) (λ v. resolve space root k (grow v w)) (failing w) u)

-- at most k copies, which only the last order knows
unfoldable pub arranged : ℕ → Graph → ℕ → ℕ → Arrangement
arranged k g n root =
    let w = ungrown g n root in
    let distance = distance_order g root in
    try_order w (kahn_order g root) (unfit g (kahn_order g root)) (λ _. try_order w distance (unfit g distance) (λ _. resolve (space_in g root) root k w))

-- ---- its table

-- the sizes of all nodes to place
abbrev pub length_of : Arrangement → ℕ
length_of c = total c.grown.graph.size c.grown.line

-- how many they are
abbrev pub placed_of : Arrangement → ℕ
placed_of c = length c.grown.line

-- `content` gives each object's bytes; a copy has its original's
abbrev pub content_in : (ℕ → List ℕ) → Grown → ℕ → List ℕ
content_in content w i = content (w.origin i)

unfoldable pub table_by : (ℕ → List ℕ) → Grown → Outcome → List ℕ
table_by content w (placed o) = table_of w.graph (content_in content w) o
table_by content w (overflow u) = []

-- ---- the same as facts

module _ (space : ℕ → ℕ) (root : ℕ) where
  -- j copies lead from w to z, each for the reported link, whose child is shared
  pub data Grows : ℕ → Grown → Grown → Type 0 where
    still : {w : Grown} → Grows 0 w w
    more : {j : ℕ} {w z : Grown} (u : Overflow) (us : List Overflow) → misfits space root w ≡ u ∷ us → shared w u ≡ true → Grows j (grow u w) z → Grows (suc j) w z

-- neither of the first two orders fits
pub record Unfit (g : Graph) (root : ℕ) : Type 0 where
  pub kahn : unfit g (kahn_order g root) ≡ [] → ⊥
  pub distance : unfit g (distance_order g root) ≡ [] → ⊥

module _ (k : ℕ) (g : Graph) (n root : ℕ) where
  abbrev first : Grown
  first = ungrown g n root

  -- the order in which every link fits: the first of the three, the last with its copies, each made for the link reported then
  pub data Chosen : Grown → List ℕ → Type 0 where
    kahn : unfit g (kahn_order g root) ≡ [] → Chosen first (kahn_order g root)
    distance : (unfit g (kahn_order g root) ≡ [] → ⊥) → unfit g (distance_order g root) ≡ [] → Chosen first (distance_order g root)
    space : {j : ℕ} {z : Grown} → Unfit g root → Grows (space_in g root) root j first z → j ≤ k → misfits (space_in g root) root z ≡ []
        → Chosen z (space_order (space_in g root) root z)

  -- none fits: after j copies a link is reported while its child has no other link, or no copy is left; v names it
  pub record Unresolved (v : Overflow) : Type 0 where
    pub unfit : Unfit g root
    pub made : ℕ
    pub within : made ≤ k
    pub grown : Grown
    pub grows : Grows (space_in g root) root made first grown
    pub report : Overflow
    pub rest : List Overflow
    pub reported : misfits (space_in g root) root grown ≡ report ∷ rest
    pub why : (shared grown report ≡ false) ⊎ (made ≡ k)
    pub names : v ≡ told grown report

-- docs/RULES.md, 7.1: what an order knows of the objects, and which of them a root reaches.
use Rattle.std.specs.Prelude.{ℕ, zero, suc, ◌≤◌, ◌<◌, ◌≡◌, List, [], ◌∷◌, ◌++◌, eqb}
use Rattle.lists.specs.Lists.{pick, total}
use Rattle.model_orders.specs.Bag.{count}
use Rattle.model_orders.specs.Object.{Link, Object, object_at, size_of}

-- each object's size and links, by its id
pub record Graph : Type 0 where
  pub size : ℕ → ℕ
  pub links : ℕ → List Link

abbrev pub graph_of : List Object → Graph
graph_of os = record { size = λ i. size_of (object_at os i); links = λ i. (object_at os i).links }

unfoldable pub kids_of : List Link → List ℕ
kids_of [] = []
kids_of (l ∷ ls) = l.child ∷ kids_of ls

-- the children's ids, in the order of the fields
abbrev pub kids : Graph → ℕ → List ℕ
kids g i = kids_of (g.links i)

-- how many fields of the objects of a list lead to c
unfoldable pub waits : Graph → List ℕ → ℕ → ℕ
waits g l c = total (λ p. count c (kids g p)) l

-- the ids below n that are marked or led to from a marked one: a child's id is below its parent's, so one pass down finds them
unfoldable pub reach_down : Graph → ℕ → List ℕ → List ℕ
reach_down g zero marks = []
reach_down g (suc i) marks = pick (eqb (count i marks) 0) (reach_down g i marks) (i ∷ reach_down g i (kids g i ++ marks))

unfoldable pub reached : Graph → ℕ → List ℕ
reached g root = reach_down g (suc root) (root ∷ [])

-- ---- what the laws of orders ask

-- a child ranks below its parent
unfoldable pub Ranked : (ℕ → ℕ) → Graph → Type 0
Ranked rank g = (p c : ℕ) → 0 < count c (kids g p) → rank c < rank p

-- children have lower ids
abbrev pub Acyclic : Graph → Type 0
Acyclic g = Ranked (λ i. i) g

-- with every object of a list, its children
unfoldable pub Closed : Graph → List ℕ → Type 0
Closed g l = (p c : ℕ) → 0 < count p l → 0 < count c (kids g p) → 0 < count c l

unfoldable pub Once : List ℕ → Type 0
Once l = (c : ℕ) → count c l ≤ 1

-- no field leads from an object of the list to itself or back
unfoldable pub ParentsFirst : Graph → List ℕ → Type 0
ParentsFirst g [] = Unit {0}
ParentsFirst g (x ∷ l) = (waits g (x ∷ l) x ≡ 0) × ParentsFirst g l

-- the objects to place: each once, with their children, and fields lead to all but the root
pub record Rooted (g : Graph) (nodes : List ℕ) (root : ℕ) : Type 0 where
  pub once : Once nodes
  pub closed : Closed g nodes
  pub root_in : 0 < count root nodes
  pub root-free : waits g nodes root ≡ 0
  pub others : (c : ℕ) → 0 < count c nodes → (c ≡ root → ⊥) → 0 < waits g nodes c

-- Ids are names: a relation that pairs off the ids of two graphs, and what it is for two looks for an order to end alike.
use Rattle.std.specs.Prelude.{ℕ, ◌<◌, ◌≡◌, List, [], ◌∷◌, length, eqb}
use Rattle.answer.specs.declared.Overflow.{Overflow}
use Rattle.model_orders.specs.Object.{Link}
use Rattle.model_orders.specs.Bag.{count}
use Rattle.model_orders.specs.Graph.{Graph, kids, Acyclic}
use Rattle.model_orders.specs.Reading.{Reading}
use Rattle.model_orders.specs.Table.{placed, overflow}
use Rattle.model_orders.specs.Copies.{Arrangement, table_by}

-- lists whose elements are paired one by one
pub data All2 (R : ℕ → ℕ → Type 0) : List ℕ → List ℕ → Type 0 where
  nil : All2 R [] []
  cons : {a b : ℕ} {l m : List ℕ} → R a b → All2 R l m → All2 R (a ∷ l) (b ∷ m)

-- links that differ in the child's id alone: the same place, width and inner start
pub data SameLinks (R : ℕ → ℕ → Type 0) : List Link → List Link → Type 0 where
  nil : SameLinks R [] []
  cons : {l m : Link} {ls ms : List Link} → l.slot ≡ m.slot → R l.child m.child → SameLinks R ls ms → SameLinks R (l ∷ ls) (m ∷ ms)

-- n objects, children by lower ids
pub record Numbered (g : Graph) (n : ℕ) : Type 0 where
  pub acyclic : Acyclic g
  pub low : (q c : ℕ) → 0 < count c (kids g q) → c < n

-- one to one, sizes and links alike
pub record Renames (g h : Graph) (R : ℕ → ℕ → Type 0) : Type 0 where
  pub ids : (a a' b b' : ℕ) → R a a' → R b b' → eqb a b ≡ eqb a' b'
  pub sizes : (p p' : ℕ) → R p p' → g.size p ≡ h.size p'
  pub links : (p p' : ℕ) → R p p' → SameLinks R (g.links p) (h.links p')

-- overflows that differ in the parent's id alone
pub record SameField (R : ℕ → ℕ → Type 0) (u v : Overflow) : Type 0 where
  pub parent : R u.parent.0 v.parent.0
  pub field : u.field ≡ v.field
  pub needed : u.needed ≡ v.needed

-- two ends of a look: the same table of as many nodes, or overflows at the same place that need the same offset; and copies of paired objects
pub data SameEnd (R : ℕ → ℕ → Type 0) (content content' : ℕ → List ℕ) (c d : Arrangement) : Type 0 where
  tables : {o o' : List ℕ} → c.outcome ≡ placed o → d.outcome ≡ placed o' → table_by content c.grown (placed o) ≡ table_by content' d.grown (placed o')
      → length o ≡ length o' → All2 R c.grown.copies d.grown.copies → SameEnd R content content' c d
  overflows : {u v : Overflow} → c.outcome ≡ overflow u → d.outcome ≡ overflow v → SameField R u v → All2 R c.grown.copies d.grown.copies
      → SameEnd R content content' c d

-- ---- by what the objects read as

-- objects below n that read the same are the same
unfoldable pub Different : (ℕ → Reading) → ℕ → Type 0
Different ρ n = (a b : ℕ) → a < n → b < n → ρ a ≡ ρ b → a ≡ b

-- a of n objects and b of n' read the same
pub record ReadAlike (ρ ρ' : ℕ → Reading) (n n' a b : ℕ) : Type 0 where
  pub read : ρ a ≡ ρ' b
  pub low : a < n
  pub low' : b < n'

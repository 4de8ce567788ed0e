-- A binary heap in a list of numbers: the children of place i stand at i * 2 + 1 and i * 2 + 2, and none is less than its parent.
use Rattle.std.specs.Prelude.{ℕ, ◌+◌, ◌-◌, ◌*◌, ◌/◌, ◌≤◌, ◌<◌, ◌≡◌, List, length, get_or, set, take, drop}
use Rattle.model_orders.specs.Bag.{one, count}

-- the place above a place
abbrev pub parent : ℕ → ℕ
parent i = (i - 1) / 2

-- each element is no less than its parent
pub record Heaped (l : List ℕ) : Type 0 where
  pub above : (i : ℕ) → i < length l → get_or l (parent i) 0 ≤ get_or l i 0

-- m stands in l, and nothing in l is less
pub record Least (m : ℕ) (l : List ℕ) : Type 0 where
  pub inside : 0 < count m l
  pub below : (x : ℕ) → 0 < count x l → m ≤ x

-- m holds what l holds, and v once more
pub record Added (v : ℕ) (l m : List ℕ) : Type 0 where
  pub each : (x : ℕ) → count x m ≡ one x v + count x l

-- ---- what the two steps do to the first k words

pub record Pushed (k v : ℕ) (w w' : List ℕ) : Type 0 where
  pub heaped : Heaped (take (k + 1) w')
  pub bag : Added v (take k w) (take (k + 1) w')
  pub kept : drop (k + 1) w' ≡ drop (k + 1) w
  pub long : length w' ≡ length w

pub record Popped (k r : ℕ) (w w' : List ℕ) : Type 0 where
  pub least : Least r (take k w)
  pub heaped : Heaped (take (k - 1) w')
  pub bag : Added r (take (k - 1) w') (take k w)
  pub kept : drop (k - 1) w' ≡ drop (k - 1) w
  pub long : length w' ≡ length w

-- ---- a hole: a place whose own number does not count

-- place i has no children, and the others are no less than their parents
pub record Hollow (i : ℕ) (l : List ℕ) : Type 0 where
  pub inside : i < length l
  pub leaf : length l ≤ i * 2 + 1
  pub above : (j : ℕ) → j < length l → (j ≡ i → ⊥) → get_or l (parent j) 0 ≤ get_or l j 0

-- m is as long as l, and holds what l holds once v fills the hole i
pub record Filled (i v : ℕ) (l m : List ℕ) : Type 0 where
  pub long : length m ≡ length l
  pub each : (x : ℕ) → count x m ≡ count x (set l i v)

-- the hole at place i of l is now at place j of m: whatever fills it, they hold the same
pub record Moved (i j : ℕ) (l m : List ℕ) : Type 0 where
  pub filled : (v : ℕ) → Filled i v l (set m j v)

-- of the children at c and c + 1, r is one, and no greater than either
pub record Lesser (c r : ℕ) (l : List ℕ) : Type 0 where
  pub low : c ≤ r
  pub high : r ≤ c + 1
  pub left : get_or l r 0 ≤ get_or l c 0
  pub right : get_or l r 0 ≤ get_or l (c + 1) 0

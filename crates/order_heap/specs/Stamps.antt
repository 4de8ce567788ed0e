-- Ready nodes in a heap: node number j of all that ever became ready is pushed as its key with j below it, so that the least number
-- is of the node of least key, the first of equals.
use Rattle.std.specs.Prelude.{ℕ, ◌+◌, ◌*◌, ◌%◌, ◌≤◌, ◌<◌, ◌≡◌, List, [], ◌∷◌, map, length, get_or}
use Rattle.model_orders.specs.Bag.{count}

-- how many nodes may become ready
abbrev pub most_arrivals : ℕ
most_arrivals = 32768

-- what is pushed for arrival j, of key k
abbrev pub stamp : ℕ → ℕ → ℕ
stamp k j = k * most_arrivals + j

-- the arrival that a stamp is for
abbrev pub arrival_of : ℕ → ℕ
arrival_of t = t % most_arrivals

-- the node that arrived as number j
abbrev pub node_of : List ℕ → ℕ → ℕ
node_of arrived j = get_or arrived j 0

-- each number is more than the one before it; the first is a or more, the last below b
pub data Rises : ℕ → List ℕ → ℕ → Type 0 where
  end : {a b : ℕ} → Rises a [] b
  next : {a b j : ℕ} {js : List ℕ} → a ≤ j → j < b → Rises (j + 1) js b → Rises a (j ∷ js) b

-- `ready` is what is left of `arrived`, in the order of arrival, and the bag holds the stamps of it
pub record Stamped (key : ℕ → ℕ) (arrived ready bag : List ℕ) : Type 0 where
  pub numbers : List ℕ
  pub few : length arrived ≤ most_arrivals
  pub rises : Rises 0 numbers (length arrived)
  pub nodes : ready ≡ map (node_of arrived) numbers
  pub stamps : (x : ℕ) → count x bag ≡ count x (map (λ j. stamp (key (node_of arrived j)) j) numbers)

-- docs/RULES.md, 7.2 to 7.4: which ids become ready, and which is next. Lists of ids are bags; ids are compared for equality alone.
use Rattle.std.specs.Prelude.{ℕ, ◌+◌, ◌≤◌, ◌<◌, ◌≡◌, List, [], ◌∷◌, ◌++◌, Bool, eqb, ltb}
use Rattle.lists.specs.Lists.{pick}

-- 1 for the same id, else 0
unfoldable pub one : ℕ → ℕ → ℕ
one x y = pick (eqb x y) 1 0

-- how often x stands in a list
unfoldable pub count : ℕ → List ℕ → ℕ
count x [] = 0
count x (y ∷ l) = one x y + count x l

-- a list less the first x
unfoldable pub without : ℕ → List ℕ → List ℕ
without x [] = []
without x (y ∷ l) = pick (eqb x y) l (y ∷ without x l)

-- those of a list that f sends to 0
unfoldable pub zeros_of : (ℕ → ℕ) → List ℕ → List ℕ
zeros_of f [] = []
zeros_of f (x ∷ l) = pick (eqb (f x) 0) (x ∷ zeros_of f l) (zeros_of f l)

-- each once, at its last place
unfoldable pub last_once : List ℕ → List ℕ
last_once [] = []
last_once (x ∷ l) = pick (eqb (count x l) 0) (x ∷ last_once l) (last_once l)

-- x takes the lead: of equals the first keeps it
abbrev pub leads : (ℕ → ℕ) → ℕ → ℕ → Bool
leads key x best = ltb (key x) (key best)

-- the first of least key: `best` so far
unfoldable pub least : (ℕ → ℕ) → ℕ → List ℕ → ℕ
least key best [] = best
least key best (x ∷ l) = least key (pick (leads key x best) x best) l

-- x is of least key, and the first of those
pub record FirstLeast (key : ℕ → ℕ) (l : List ℕ) (x : ℕ) : Type 0 where
  pub front : List ℕ
  pub back : List ℕ
  pub split : l ≡ front ++ (x ∷ back)
  pub above : (y : ℕ) → 0 < count y front → key x < key y
  pub least : (y : ℕ) → 0 < count y back → key x ≤ key y

-- docs/RULES.md, 7.2: placing by any key.
use Rattle.std.specs.Prelude.{ℕ, zero, suc, List, [], ◌∷◌, ◌++◌, length}
use Rattle.model_orders.specs.Bag.{without, zeros_of, last_once, least}
use Rattle.model_orders.specs.Graph.{Graph, kids, waits, reached}

-- `left`: those reached and not yet placed. `ready`: those of them to which no field of `left` leads, longest ready first.
-- Next is the ready object of least key, the first of equals. It makes ready those of its children that nothing left leads to,
-- in the order of their last field in it.
unfoldable pub order_from : (ℕ → ℕ) → Graph → ℕ → List ℕ → List ℕ → List ℕ
order_from key g zero left ready = []
order_from key g (suc n) left [] = []
order_from key g (suc n) left (r ∷ rs) =
    let x = least key r rs in
    let left' = without x left in
    x ∷ order_from key g n left' (without x (r ∷ rs) ++ zeros_of (waits g left') (last_once (kids g x)))

abbrev pub order_of : (ℕ → ℕ) → Graph → List ℕ → ℕ → List ℕ
order_of key g nodes root = order_from key g (length nodes) nodes (root ∷ [])

unfoldable pub order_by : (ℕ → ℕ) → Graph → ℕ → List ℕ
order_by key g root = order_of key g (reached g root) root

-- docs/RULES.md, 7.9: what the orders after the first come to.
use Rattle.std.specs.Prelude.{ℕ}
use Rattle.model_orders.specs.Graph.{Graph}
use Rattle.model_orders.specs.Distance.{distance_order}
use Rattle.model_orders.specs.Table.{unfit}
use Rattle.model_orders.specs.Copies.{ungrown, Arrangement, try_order}
use Rattle.order_resolve.specs.Resolve.{by_spaces}

abbrev pub by_later : ℕ → Graph → ℕ → ℕ → Arrangement
by_later copies g n root = let o = distance_order g root in try_order (ungrown g n root) o (unfit g o) (λ _. by_spaces copies g n root)

-- docs/RULES.md, section 7, in the work memory: one order tried: its keys, the order, its places, and the first link that does not fit.
use Rattle.std.specs.Prelude.{ℕ, ◌+◌, ◌*◌, ◌≤◌, ◌<◌, ◌≡◌, List, [], ◌∷◌, length, get_or, Ok, Err}
use Rattle.regions.specs.Region.{ceiling, Kept}
use Rattle.answer.specs.declared.Overflow.{Overflow}
use Rattle.model_orders.specs.Bag.{count}
use Rattle.model_orders.specs.Order.{order_of}
use Rattle.model_orders.specs.Space.{space_weight}
use Rattle.model_orders.specs.Table.{place_of, unfit}
use Rattle.work.specs.Areas.{Apart}
use Rattle.work.specs.Views.{key_in, order_in, places_in, distances_in, spaces_in}
use Rattle.work.specs.declared.Areas.{Areas}
use Rattle.order_graph.specs.Graph.{most_nodes, graph_on, Counted}
use Rattle.order_survey.specs.Survey.{far_away, Surveyed}
use Rattle.order_ready.specs.Ready.{SmallKeys}
use Rattle.order_place.specs.Place.{OrderIds}
use Rattle.order_fit.specs.Fit.{Look}
use Rattle.order.specs.declared.By.{By}

-- ---- the orders

-- the key of node i: all alike, the distance, or the distance and what its space weighs
abbrev pub key_by : By → Areas → List ℕ → ℕ → ℕ
key_by By.Readiness a w i = 0
key_by By.Distance a w i = get_or (distances_in a w) i 0
key_by By.Space a w i = get_or (distances_in a w) i 0 + get_or (spaces_in a w) i 0 * space_weight

-- the first of the links that do not fit
abbrev pub look_of : List Overflow → Look
look_of [] = Ok tt
look_of (u ∷ us) = Err u

-- ---- what an order asks: the survey, and that what it goes by leaves room for a key

abbrev pub Near : Areas → List ℕ → Type 0
Near a w = ceiling (distances_in a w) ≤ far_away + 1

abbrev pub FewSpaces : Areas → List ℕ → Type 0
FewSpaces a w = ceiling (spaces_in a w) ≤ most_nodes

abbrev pub Asked : By → Areas → List ℕ → Type 0
Asked By.Readiness a w = Unit {0}
Asked By.Distance a w = Near a w
Asked By.Space a w = Near a w × FewSpaces a w

pub record Trying (a : Areas) (n root : ℕ) (by : By) (w : List ℕ) : Type 0 where
  pub nodes : List ℕ
  pub surveyed : Surveyed a n root nodes w
  pub asked : Asked by a w

pub record Keying (a : Areas) (w : List ℕ) : Type 0 where
  pub apart : Apart a
  pub long : a.end ≤ length w
  pub near : Near a w
  pub small : FewSpaces a w

-- ---- what is done

pub record Keyed (a : Areas) (by : By) (w w' : List ℕ) : Type 0 where
  pub kept : Kept a.keys a.waiting w w'
  pub keys : (i : ℕ) → key_in a w' i ≡ key_by by a w i
  pub small : SmallKeys a w'

-- the order of r nodes stands in the memory
pub record Ordered (a : Areas) (n root : ℕ) (by : By) (r : ℕ) (w w' : List ℕ) : Type 0 where
  pub kept : Kept a.keys a.incoming w w'
  pub nodes : OrderIds a n r w'
  pub order : (nodes : List ℕ) → Counted a n root nodes w → order_in a r w' ≡ order_of (key_by by a w) (graph_on a n w) nodes root

-- so do their places, and the first link that does not fit is told
pub record Tried (a : Areas) (n root : ℕ) (by : By) (r : ℕ) (u : Look) (w w' : List ℕ) : Type 0 where
  pub ordered : Ordered a n root by r w w'
  pub places : (i : ℕ) → 0 < count i (order_in a r w') → get_or (places_in a w') i 0 ≡ place_of (graph_on a n w) (order_in a r w') i
  pub found : u ≡ look_of (unfit (graph_on a n w) (order_in a r w'))

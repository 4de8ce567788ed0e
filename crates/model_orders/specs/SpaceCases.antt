-- docs/RULES.md, 7.10 to 7.12: graphs that tell the order by spaces from ones that come near it, by one claim over a list of them.
use Rattle.std.specs.Prelude.{ℕ, List, [], ◌∷◌, Bool, true, ◌&&◌, length, get_or, eqb}
use Rattle.lists.specs.Lists.{same_list}
use Rattle.model_orders.specs.Object.{Link}
use Rattle.model_orders.specs.Graph.{Graph}
use Rattle.model_orders.specs.Distance.{distance_order}
use Rattle.model_orders.specs.Table.{Outcome, placed, overflow}
use Rattle.model_orders.specs.Copies.{ungrown, space_order, arranged}
use Rattle.model_orders.specs.Space.{spaces, space_in}
use Rattle.model_orders.specs.OrderCases.{unfit_in, to}

-- sizes and links by id; the distance order from the root, the space of each object in it, the order by spaces; the first of the three orders that fits,
-- or what does not fit in the last
pub record Case : Type 0 where
  pub sizes : List ℕ
  pub links : List (List Link)
  pub root : ℕ
  pub distance : List ℕ
  pub spaces : List ℕ
  pub third : List ℕ
  pub chosen : List ℕ
  pub unfit : List ℕ

abbrev chosen_in : Outcome → List ℕ
chosen_in (placed o) = o
chosen_in (overflow u) = []

unfoldable pub right : Case → Bool
right c =
    let g : Graph = record { size = λ i. get_or c.sizes i 0; links = λ i. get_or c.links i [] } in
    let n = length c.sizes in
    let o = distance_order g c.root in
    let u = (arranged 0 g n c.root).outcome in
    same_list eqb o c.distance
    && (same_list eqb (spaces g o c.root) c.spaces
    && (same_list eqb (space_order (space_in g c.root) c.root (ungrown g n c.root)) c.third
    && (same_list eqb (chosen_in u) c.chosen && same_list eqb (unfit_in u) c.unfit)))

unfoldable pub all_right : List Case → Bool
all_right [] = true
all_right (c ∷ cs) = right c && all_right cs

abbrev pub cases : List Case
cases =
    -- HarfBuzz's graph: f d b g e c a are 0 to 6
    record {
      sizes = 1 ∷ 40000 ∷ 2 ∷ 1 ∷ 40000 ∷ 2 ∷ 8 ∷ [];
      links = [] ∷ (to 0 2 0 ∷ []) ∷ (to 0 2 1 ∷ []) ∷ [] ∷ (to 0 2 3 ∷ []) ∷ (to 0 2 4 ∷ []) ∷ (to 0 4 2 ∷ to 4 4 5 ∷ []) ∷ [];
      root = 6;
      distance = 6 ∷ 2 ∷ 5 ∷ 1 ∷ 4 ∷ 0 ∷ 3 ∷ [];
      spaces = 0 ∷ 1 ∷ 2 ∷ 1 ∷ 2 ∷ 1 ∷ 2 ∷ [];
      third = 6 ∷ 2 ∷ 1 ∷ 0 ∷ 5 ∷ 4 ∷ 3 ∷ [];
      chosen = 6 ∷ 2 ∷ 1 ∷ 0 ∷ 5 ∷ 4 ∷ 3 ∷ [];
      unfit = [];
    }
    -- the same with larger objects: the last order's overflow is told
    ∷ record {
      sizes = 1 ∷ 70000 ∷ 2 ∷ 1 ∷ 70000 ∷ 2 ∷ 8 ∷ [];
      links = [] ∷ (to 0 2 0 ∷ []) ∷ (to 0 2 1 ∷ []) ∷ [] ∷ (to 0 2 3 ∷ []) ∷ (to 0 2 4 ∷ []) ∷ (to 0 4 2 ∷ to 4 4 5 ∷ []) ∷ [];
      root = 6;
      distance = 6 ∷ 2 ∷ 5 ∷ 1 ∷ 4 ∷ 0 ∷ 3 ∷ [];
      spaces = 0 ∷ 1 ∷ 2 ∷ 1 ∷ 2 ∷ 1 ∷ 2 ∷ [];
      third = 6 ∷ 2 ∷ 1 ∷ 0 ∷ 5 ∷ 4 ∷ 3 ∷ [];
      chosen = [];
      unfit = 1 ∷ 0 ∷ 70000 ∷ [];
    }
    -- where the distance order fits, it is taken, though the one by spaces would fit too: x y A a B b are 0, 1, 3, 2, 5, 4
    ∷ record {
      sizes = 65532 ∷ 10 ∷ 1 ∷ 5 ∷ 1 ∷ 6 ∷ 12 ∷ [];
      links = [] ∷ [] ∷ [] ∷ (to 0 2 2 ∷ []) ∷ [] ∷ (to 0 2 4 ∷ []) ∷ (to 0 2 0 ∷ to 2 2 1 ∷ to 4 4 3 ∷ to 8 4 5 ∷ []) ∷ [];
      root = 6;
      distance = 6 ∷ 1 ∷ 0 ∷ 3 ∷ 5 ∷ 2 ∷ 4 ∷ [];
      spaces = 0 ∷ 0 ∷ 0 ∷ 1 ∷ 2 ∷ 1 ∷ 2 ∷ [];
      third = 6 ∷ 1 ∷ 0 ∷ 3 ∷ 2 ∷ 5 ∷ 4 ∷ [];
      chosen = 6 ∷ 1 ∷ 0 ∷ 3 ∷ 5 ∷ 2 ∷ 4 ∷ [];
      unfit = [];
    }
    -- numbers go by the distance order, not by ids
    ∷ record {
      sizes = 1 ∷ 40000 ∷ 1 ∷ 30000 ∷ 1 ∷ 50000 ∷ 12 ∷ [];
      links = [] ∷ (to 0 2 0 ∷ []) ∷ [] ∷ (to 0 2 2 ∷ []) ∷ [] ∷ (to 0 2 4 ∷ []) ∷ (to 0 4 5 ∷ to 4 4 1 ∷ to 8 4 3 ∷ []) ∷ [];
      root = 6;
      distance = 6 ∷ 3 ∷ 1 ∷ 5 ∷ 2 ∷ 0 ∷ 4 ∷ [];
      spaces = 0 ∷ 1 ∷ 2 ∷ 3 ∷ 1 ∷ 2 ∷ 3 ∷ [];
      third = 6 ∷ 3 ∷ 2 ∷ 1 ∷ 0 ∷ 5 ∷ 4 ∷ [];
      chosen = 6 ∷ 3 ∷ 2 ∷ 1 ∷ 0 ∷ 5 ∷ 4 ∷ [];
      unfit = [];
    }
    -- two that share a child are one space
    ∷ record {
      sizes = 1 ∷ 3 ∷ 2 ∷ 8 ∷ [];
      links = [] ∷ (to 0 2 0 ∷ []) ∷ (to 0 2 0 ∷ []) ∷ (to 0 4 2 ∷ to 4 4 1 ∷ []) ∷ [];
      root = 3;
      distance = 3 ∷ 2 ∷ 1 ∷ 0 ∷ [];
      spaces = 0 ∷ 1 ∷ 1 ∷ 1 ∷ [];
      third = 3 ∷ 2 ∷ 1 ∷ 0 ∷ [];
      chosen = 3 ∷ 2 ∷ 1 ∷ 0 ∷ [];
      unfit = [];
    }
    -- a child in space 0 joins nothing
    ∷ record {
      sizes = 10 ∷ 40000 ∷ 40000 ∷ 10 ∷ [];
      links = [] ∷ (to 0 2 0 ∷ []) ∷ (to 0 2 0 ∷ []) ∷ (to 0 2 0 ∷ to 2 4 1 ∷ to 6 4 2 ∷ []) ∷ [];
      root = 3;
      distance = 3 ∷ 1 ∷ 2 ∷ 0 ∷ [];
      spaces = 0 ∷ 1 ∷ 2 ∷ 0 ∷ [];
      third = 3 ∷ 1 ∷ 2 ∷ 0 ∷ [];
      chosen = [];
      unfit = 3 ∷ 0 ∷ 80010 ∷ [];
    }
    -- width 3 joins as width 2 does
    ∷ record {
      sizes = 1 ∷ 40000 ∷ 40000 ∷ 8 ∷ [];
      links = [] ∷ (to 0 2 0 ∷ []) ∷ (to 0 3 0 ∷ []) ∷ (to 0 4 1 ∷ to 4 4 2 ∷ []) ∷ [];
      root = 3;
      distance = 3 ∷ 1 ∷ 2 ∷ 0 ∷ [];
      spaces = 0 ∷ 1 ∷ 1 ∷ 1 ∷ [];
      third = 3 ∷ 1 ∷ 2 ∷ 0 ∷ [];
      chosen = [];
      unfit = 1 ∷ 0 ∷ 80000 ∷ [];
    }
    -- width 4 parts at every depth, and a parent that is not reached joins nothing
    ∷ record {
      sizes = 1 ∷ 3 ∷ 4 ∷ 4 ∷ 4 ∷ [];
      links = [] ∷ (to 0 2 0 ∷ []) ∷ (to 0 4 1 ∷ []) ∷ (to 0 2 2 ∷ to 2 2 1 ∷ []) ∷ (to 0 4 2 ∷ []) ∷ [];
      root = 4;
      distance = 4 ∷ 2 ∷ 1 ∷ 0 ∷ [];
      spaces = 0 ∷ 1 ∷ 2 ∷ 2 ∷ [];
      third = 4 ∷ 2 ∷ 1 ∷ 0 ∷ [];
      chosen = 4 ∷ 2 ∷ 1 ∷ 0 ∷ [];
      unfit = [];
    }
    ∷ []

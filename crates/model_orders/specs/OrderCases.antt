-- docs/RULES.md, section 7: graphs that tell the orders from ones that come near them, by one claim over a list of them.
use Rattle.std.specs.Prelude.{ℕ, List, [], ◌∷◌, Bool, true, ◌&&◌, length, get_or, eqb}
use Rattle.lists.specs.Lists.{same_list}
use Rattle.model_orders.specs.Object.{Link}
use Rattle.model_orders.specs.Graph.{Graph}
use Rattle.model_orders.specs.Distance.{distance, kahn_order, distance_order}
use Rattle.model_orders.specs.Table.{Outcome, placed, overflow}
use Rattle.model_orders.specs.Copies.{arranged}

-- sizes and links by id; the first two orders from the root; what does not fit in the last one, where none fits
pub record Case : Type 0 where
  pub sizes : List ℕ
  pub links : List (List Link)
  pub root : ℕ
  pub kahn : List ℕ
  pub distance : List ℕ
  pub unfit : List ℕ

-- the parent, the field's place and the offset needed
abbrev pub unfit_in : Outcome → List ℕ
unfit_in (placed o) = []
unfit_in (overflow u) = u.parent.0 ∷ u.field ∷ u.needed ∷ []

unfoldable pub right : Case → Bool
right c =
    let g : Graph = record { size = λ i. get_or c.sizes i 0; links = λ i. get_or c.links i [] } in
    same_list eqb (kahn_order g c.root) c.kahn
    && (same_list eqb (distance_order g c.root) c.distance && same_list eqb (unfit_in (arranged 0 g (length c.sizes) c.root).outcome) c.unfit)

unfoldable pub all_right : List Case → Bool
all_right [] = true
all_right (c ∷ cs) = right c && all_right cs

abbrev pub to : ℕ → ℕ → ℕ → Link
to at width child = record { slot = record { at = at; width = width; inner = 0 }; child = child }

-- with an inner start
abbrev to_from : ℕ → ℕ → ℕ → ℕ → Link
to_from at width inner child = record { slot = record { at = at; width = width; inner = inner }; child = child }

abbrev pub cases : List Case
cases =
    -- a child of two parents waits for both
    record {
      sizes = 1 ∷ 2 ∷ 4 ∷ [];
      links = [] ∷ (to 0 2 0 ∷ []) ∷ (to 0 2 0 ∷ to 2 2 1 ∷ []) ∷ [];
      root = 2;
      kahn = 2 ∷ 1 ∷ 0 ∷ [];
      distance = 2 ∷ 1 ∷ 0 ∷ [];
      unfit = [];
    }
    -- fields to x, y, x: x becomes ready by its last field, so after y
    ∷ record {
      sizes = 1 ∷ 1 ∷ 6 ∷ [];
      links = [] ∷ [] ∷ (to 0 2 0 ∷ to 2 2 1 ∷ to 4 2 0 ∷ []) ∷ [];
      root = 2;
      kahn = 2 ∷ 1 ∷ 0 ∷ [];
      distance = 2 ∷ 1 ∷ 0 ∷ [];
      unfit = [];
    }
    -- a parent that is not reached counts for nothing
    ∷ record {
      sizes = 1 ∷ 2 ∷ 2 ∷ [];
      links = [] ∷ (to 0 2 0 ∷ []) ∷ (to 0 2 0 ∷ []) ∷ [];
      root = 2;
      kahn = 2 ∷ 0 ∷ [];
      distance = 2 ∷ 0 ∷ [];
      unfit = [];
    }
    -- equal distances through different parents: the longest ready first, whatever the ids
    ∷ record {
      sizes = 1 ∷ 1 ∷ 2 ∷ 2 ∷ 4 ∷ [];
      links = [] ∷ [] ∷ (to 0 2 1 ∷ []) ∷ (to 0 2 0 ∷ []) ∷ (to 0 2 2 ∷ to 2 2 3 ∷ []) ∷ [];
      root = 4;
      kahn = 4 ∷ 2 ∷ 3 ∷ 1 ∷ 0 ∷ [];
      distance = 4 ∷ 2 ∷ 3 ∷ 1 ∷ 0 ∷ [];
      unfit = [];
    }
    -- of two links to one child the lighter one counts
    ∷ record {
      sizes = 5 ∷ 10 ∷ 8 ∷ [];
      links = [] ∷ [] ∷ (to 0 4 0 ∷ to 4 2 1 ∷ to 6 2 0 ∷ []) ∷ [];
      root = 2;
      kahn = 2 ∷ 1 ∷ 0 ∷ [];
      distance = 2 ∷ 0 ∷ 1 ∷ [];
      unfit = [];
    }
    -- width 4 weighs the child's size too
    ∷ record {
      sizes = 9 ∷ 3 ∷ 8 ∷ [];
      links = [] ∷ [] ∷ (to 0 4 0 ∷ to 4 4 1 ∷ []) ∷ [];
      root = 2;
      kahn = 2 ∷ 0 ∷ 1 ∷ [];
      distance = 2 ∷ 1 ∷ 0 ∷ [];
      unfit = [];
    }
    -- width 3 weighs more than width 2
    ∷ record {
      sizes = 1 ∷ 10 ∷ 5 ∷ [];
      links = [] ∷ [] ∷ (to 0 3 0 ∷ to 3 2 1 ∷ []) ∷ [];
      root = 2;
      kahn = 2 ∷ 0 ∷ 1 ∷ [];
      distance = 2 ∷ 1 ∷ 0 ∷ [];
      unfit = [];
    }
    -- and less than width 4
    ∷ record {
      sizes = 10 ∷ 1 ∷ 7 ∷ [];
      links = [] ∷ [] ∷ (to 0 4 1 ∷ to 4 3 0 ∷ []) ∷ [];
      root = 2;
      kahn = 2 ∷ 1 ∷ 0 ∷ [];
      distance = 2 ∷ 0 ∷ 1 ∷ [];
      unfit = [];
    }
    -- 65,535 fits width 2, so that the plain order stands
    ∷ record {
      sizes = 65531 ∷ 10 ∷ 4 ∷ [];
      links = [] ∷ [] ∷ (to 0 2 0 ∷ to 2 2 1 ∷ []) ∷ [];
      root = 2;
      kahn = 2 ∷ 0 ∷ 1 ∷ [];
      distance = 2 ∷ 1 ∷ 0 ∷ [];
      unfit = [];
    }
    -- two that are each too long to have the other behind them
    ∷ record {
      sizes = 65532 ∷ 65532 ∷ 4 ∷ [];
      links = [] ∷ [] ∷ (to 0 2 0 ∷ to 2 2 1 ∷ []) ∷ [];
      root = 2;
      kahn = 2 ∷ 0 ∷ 1 ∷ [];
      distance = 2 ∷ 0 ∷ 1 ∷ [];
      unfit = 2 ∷ 2 ∷ 65536 ∷ [];
    }
    -- an inner start that is just far enough, and one byte too near
    ∷ record {
      sizes = 1 ∷ 70004 ∷ [];
      links = [] ∷ (to_from 70002 2 4469 0 ∷ []) ∷ [];
      root = 1;
      kahn = 1 ∷ 0 ∷ [];
      distance = 1 ∷ 0 ∷ [];
      unfit = [];
    }
    ∷ record {
      sizes = 1 ∷ 70004 ∷ [];
      links = [] ∷ (to_from 70002 2 4468 0 ∷ []) ∷ [];
      root = 1;
      kahn = 1 ∷ 0 ∷ [];
      distance = 1 ∷ 0 ∷ [];
      unfit = 1 ∷ 70002 ∷ 65536 ∷ [];
    }
    -- HarfBuzz's graph: f d b g e c a are 0 to 6; the order by spaces fits
    ∷ record {
      sizes = 1 ∷ 40000 ∷ 2 ∷ 1 ∷ 40000 ∷ 2 ∷ 8 ∷ [];
      links = [] ∷ (to 0 2 0 ∷ []) ∷ (to 0 2 1 ∷ []) ∷ [] ∷ (to 0 2 3 ∷ []) ∷ (to 0 2 4 ∷ []) ∷ (to 0 4 2 ∷ to 4 4 5 ∷ []) ∷ [];
      root = 6;
      kahn = 6 ∷ 2 ∷ 5 ∷ 1 ∷ 4 ∷ 0 ∷ 3 ∷ [];
      distance = 6 ∷ 2 ∷ 5 ∷ 1 ∷ 4 ∷ 0 ∷ 3 ∷ [];
      unfit = [];
    }
    ∷ []

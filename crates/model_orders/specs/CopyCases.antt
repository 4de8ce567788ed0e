-- docs/RULES.md, 7.13 to 7.17: graphs that copies help, or do not, by one claim over a list of them.
use Rattle.std.specs.Prelude.{ℕ, List, [], ◌∷◌, map, Bool, true, ◌&&◌, length, get_or, eqb}
use Rattle.lists.specs.Lists.{same_list}
use Rattle.model_orders.specs.Object.{Link}
use Rattle.model_orders.specs.Graph.{Graph}
use Rattle.model_orders.specs.Table.{Outcome, placed, overflow, place_of}
use Rattle.model_orders.specs.Copies.{Grown, arranged}
use Rattle.model_orders.specs.OrderCases.{unfit_in, to}

-- sizes and links by id; how many copies are allowed; the objects in the order in which every link fits, and their places, or what does not fit;
-- how many copies were made
pub record Case : Type 0 where
  pub sizes : List ℕ
  pub links : List (List Link)
  pub root : ℕ
  pub allowed : ℕ
  pub objects : List ℕ
  pub places : List ℕ
  pub unfit : List ℕ
  pub made : ℕ

abbrev objects_in : Grown → Outcome → List ℕ
objects_in w (placed o) = map w.origin o
objects_in w (overflow u) = []

abbrev places_in : Grown → Outcome → List ℕ
places_in w (placed o) = map (place_of w.graph o) o
places_in w (overflow u) = []

unfoldable pub right : Case → Bool
right c =
    let g : Graph = record { size = λ i. get_or c.sizes i 0; links = λ i. get_or c.links i [] } in
    let r = arranged c.allowed g (length c.sizes) c.root in
    same_list eqb (objects_in r.grown r.outcome) c.objects
    && (same_list eqb (places_in r.grown r.outcome) c.places
    && (same_list eqb (unfit_in r.outcome) c.unfit && eqb (length r.grown.copies) c.made))

unfoldable pub all_right : List Case → Bool
all_right [] = true
all_right (c ∷ cs) = right c && all_right cs

-- a leaf s, and p and q, each too long to have it behind both: s p q and the root are 0 to 3
abbrev sharing : ℕ → List ℕ → List ℕ → List ℕ → ℕ → Case
sharing allowed objects places unfit made =
    record {
      sizes = 10 ∷ 40000 ∷ 40000 ∷ 10 ∷ [];
      links = [] ∷ (to 0 2 0 ∷ []) ∷ (to 0 2 0 ∷ []) ∷ (to 0 2 0 ∷ to 2 4 1 ∷ to 6 4 2 ∷ []) ∷ [];
      root = 3;
      allowed = allowed;
      objects = objects;
      places = places;
      unfit = unfit;
      made = made;
    }

abbrev pub cases : List Case
cases =
    -- two copies are enough, and no third is made; with fewer, the link reported when they are spent is told
    sharing 0 [] [] (3 ∷ 0 ∷ 80010 ∷ []) 0
    ∷ sharing 1 [] [] (1 ∷ 0 ∷ 80000 ∷ []) 1
    ∷ sharing 2 (3 ∷ 0 ∷ 1 ∷ 0 ∷ 2 ∷ 0 ∷ []) (0 ∷ 10 ∷ 20 ∷ 40020 ∷ 40030 ∷ 80030 ∷ []) [] 2
    ∷ sharing 3 (3 ∷ 0 ∷ 1 ∷ 0 ∷ 2 ∷ 0 ∷ []) (0 ∷ 10 ∷ 20 ∷ 40020 ∷ 40030 ∷ 80030 ∷ []) [] 2
    -- links are counted, and not parents; distances are found anew: the copy waits behind 1, and 0 is far
    ∷ record {
      sizes = 65520 ∷ 65520 ∷ 30008 ∷ [];
      links = [] ∷ [] ∷ (to 0 4 0 ∷ to 4 2 1 ∷ to 6 2 0 ∷ []) ∷ [];
      root = 2;
      allowed = 8;
      objects = [];
      places = [];
      unfit = 2 ∷ 6 ∷ 95528 ∷ [];
      made = 1;
    }
    -- only the reported link leads to the copy
    ∷ record {
      sizes = 40000 ∷ 40000 ∷ 65528 ∷ [];
      links = [] ∷ [] ∷ (to 0 2 1 ∷ to 2 2 0 ∷ to 4 4 1 ∷ []) ∷ [];
      root = 2;
      allowed = 4;
      objects = [];
      places = [];
      unfit = 2 ∷ 2 ∷ 105528 ∷ [];
      made = 1;
    }
    -- of several links that do not fit only the first gets a copy
    ∷ record {
      sizes = 60000 ∷ 60000 ∷ 60000 ∷ 60000 ∷ [];
      links = [] ∷ (to 0 2 0 ∷ []) ∷ (to 0 2 0 ∷ []) ∷ (to 0 2 1 ∷ to 2 2 0 ∷ to 4 4 2 ∷ []) ∷ [];
      root = 3;
      allowed = 4;
      objects = [];
      places = [];
      unfit = 3 ∷ 2 ∷ 120000 ∷ [];
      made = 1;
    }
    -- a copy is of its object's space, and so behind all of it
    ∷ record {
      sizes = 40000 ∷ 40000 ∷ 40000 ∷ 8 ∷ [];
      links = [] ∷ (to 0 2 0 ∷ []) ∷ (to 0 2 0 ∷ []) ∷ (to 0 4 2 ∷ to 4 4 1 ∷ []) ∷ [];
      root = 3;
      allowed = 1;
      objects = [];
      places = [];
      unfit = 2 ∷ 0 ∷ 80000 ∷ [];
      made = 1;
    }
    -- a copy, with its object's links, is told by its object
    ∷ record {
      sizes = 40000 ∷ 40000 ∷ 40000 ∷ 40000 ∷ [];
      links = [] ∷ (to 0 2 0 ∷ []) ∷ (to 0 4 1 ∷ to 4 4 1 ∷ []) ∷ (to 0 2 1 ∷ to 2 4 2 ∷ []) ∷ [];
      root = 3;
      allowed = 1;
      objects = [];
      places = [];
      unfit = 1 ∷ 0 ∷ 120000 ∷ [];
      made = 1;
    }
    -- it has the links as they are now: 2, which leads to a copy of 0 by then, is copied
    ∷ record {
      sizes = 60000 ∷ 60000 ∷ 20000 ∷ 20000 ∷ 20000 ∷ [];
      links = [] ∷ [] ∷ (to 0 2 1 ∷ to 2 2 0 ∷ []) ∷ (to 0 2 2 ∷ to 2 2 2 ∷ []) ∷ (to 0 3 3 ∷ to 3 3 0 ∷ to 6 3 1 ∷ []) ∷ [];
      root = 4;
      allowed = 3;
      objects = [];
      places = [];
      unfit = 3 ∷ 0 ∷ 80000 ∷ [];
      made = 2;
    }
    -- a copy of a copy
    ∷ record {
      sizes = 40000 ∷ 40000 ∷ 40000 ∷ 20 ∷ 40000 ∷ [];
      links = [] ∷ (to 0 4 0 ∷ []) ∷ (to 0 2 0 ∷ []) ∷ (to 0 2 1 ∷ to 2 4 2 ∷ []) ∷ (to 0 4 3 ∷ to 4 2 2 ∷ to 6 3 1 ∷ []) ∷ [];
      root = 4;
      allowed = 4;
      objects = 4 ∷ 2 ∷ 0 ∷ 1 ∷ 3 ∷ 1 ∷ 0 ∷ 2 ∷ 0 ∷ [];
      places = 0 ∷ 40000 ∷ 80000 ∷ 120000 ∷ 160000 ∷ 160020 ∷ 200020 ∷ 240020 ∷ 280020 ∷ [];
      unfit = [];
      made = 4;
    }
    -- spaces are not numbered anew, and only the order by spaces is tried again
    ∷ record {
      sizes = 40000 ∷ 30000 ∷ 40000 ∷ 40000 ∷ [];
      links = [] ∷ [] ∷ (to 0 4 1 ∷ to 4 2 0 ∷ []) ∷ (to 0 2 1 ∷ to 2 4 2 ∷ []) ∷ [];
      root = 3;
      allowed = 1;
      objects = [];
      places = [];
      unfit = 2 ∷ 4 ∷ 70000 ∷ [];
      made = 1;
    }
    ∷ []

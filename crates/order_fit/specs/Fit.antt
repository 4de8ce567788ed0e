-- docs/RULES.md, 7.5 to 7.8, in the work memory: places in placing order, and the first link that does not fit.
use Rattle.std.specs.Prelude.{ℕ, ◌+◌, ◌≡◌, List, [], ◌∷◌, get_or, set, Result, Ok, Err}
use Rattle.regions.specs.Region.{Kept}
use Rattle.lists.specs.Lists.{pick}
use Rattle.answer.specs.declared.Overflow.{Overflow}
use Rattle.big_endian.specs.BigEndian.{fits}
use Rattle.model_orders.specs.Object.{Link}
use Rattle.model_orders.specs.Graph.{Graph}
use Rattle.model_orders.specs.Table.{offset}
use Rattle.work.specs.declared.Areas.{Areas}
use Rattle.order_graph.specs.Graph.{Stands, graph_on, object_of}
use Rattle.work.specs.Views.{order_in, places_in}
use Rattle.order_place.specs.Place.{OrderIds}

-- one after the other from `at` on
unfoldable pub places_from : Graph → List ℕ → ℕ → List ℕ → List ℕ
places_from g [] at ps = ps
places_from g (x ∷ l) at ps = places_from g l (at + g.size x) (set ps x at)

pub record Placing (a : Areas) (n r : ℕ) (w : List ℕ) : Type 0 where
  pub graph : Stands a n w
  pub nodes : OrderIds a n r w

pub record PlacedAt (a : Areas) (n r : ℕ) (w w' : List ℕ) : Type 0 where
  pub kept : Kept a.places a.order w w'
  pub places : places_in a w' ≡ places_from (graph_on a n w) (order_in a r w) 0 (places_in a w)

-- what a look through links comes to: all fit, or the first that does not
abbrev pub Look : Type 0
Look = Result (Unit {0}) Overflow

abbrev pub or_else : Look → Look → Look
or_else (Ok _) b = b
or_else (Err u) b = Err u

-- the offset of a link of x, by the places
abbrev pub offset_by : List ℕ → ℕ → Link → ℕ
offset_by ps x l = offset (λ i. get_or ps i 0) x l

unfoldable pub look_links : List ℕ → ℕ → List Link → Look
look_links ps x [] = Ok tt
look_links ps x (l ∷ ls) =
    pick (fits l.slot.width (offset_by ps x l)) (look_links ps x ls) (Err (record { parent = object_of x; field = l.slot.at; needed = offset_by ps x l }))

unfoldable pub look : Graph → List ℕ → List ℕ → Look
look g ps [] = Ok tt
look g ps (x ∷ l) = or_else (look_links ps x (g.links x)) (look g ps l)

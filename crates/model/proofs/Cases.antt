-- The hand-counted cases, the ends of the ranges and the refusals that apply at once: each by one claim over its list, which the checker computes.
use mathlib.Core.Path.{◌≡◌, refl}
use mathlib.Core.List.{[], ◌∷◌, map}
use mathlib.Core.Bool.{true}
use Rattle.lists.specs.Lists.{same_list, total, first_that, over, holds}
use Rattle.big_endian.specs.BigEndian.{big_endian}
use Rattle.model_orders.specs.Object.{any_hopeless}
use Rattle.model_orders.specs.Bag.{one, count, without, zeros_of, last_once, least}
use Rattle.model_orders.specs.Graph.{kids_of, waits, reach_down, reached}
use Rattle.model_orders.specs.Order.{order_from, order_by}
use Rattle.model_orders.specs.Distance.{distance_along, relax, relax_all, distances_by, beyond, distance, kahn_order, distance_order}
use Rattle.model_orders.specs.Table.{before, offset, unfit_links, unfit_from, filled, object_bytes, table_from, table_of}
use Rattle.model_orders.specs.Copies.{grown_key, space_order, try_order, resolve, arranged, table_by}
use Rattle.model.specs.Judge.{verdict, number_of}
use Rattle.model.specs.Session.{step, pack, after_call}
use Rattle.model.specs.Cases.{numbers_of, ids_of, counts_of, tables_of, right, all_right, cases, ends, edges, several}

pub cases-right : all_right cases ≡ true
unfolding all_right right numbers_of ids_of counts_of tables_of after_call step pack verdict any_hopeless arranged resolve try_order space_order grown_key distance_along unfit_from unfit_links offset before table_by table_of table_from object_bytes filled kahn_order distance_order distance distances_by beyond relax_all relax order_by order_from reached reach_down waits kids_of one count without zeros_of last_once least same_list total first_that over holds big_endian
cases-right = refl

pub ends-right : map number_of ends ≡ 0 ∷ 0 ∷ 13 ∷ 13 ∷ 13 ∷ 13 ∷ 13 ∷ []
unfolding verdict holds
ends-right = refl

pub edges-right : map number_of edges ≡ 0 ∷ 16 ∷ 16 ∷ 0 ∷ 16 ∷ 0 ∷ 5 ∷ 16 ∷ []
unfolding verdict any_hopeless
edges-right = refl

-- "link 12, 1, 3, 4, 7, 6", "close 12, 1, 5, 16, 8", "pack 12, 13, 9, 4, 11, 10"
pub several-right : map (map number_of) several ≡ (12 ∷ 1 ∷ 3 ∷ 4 ∷ 7 ∷ 6 ∷ []) ∷ (12 ∷ 1 ∷ 5 ∷ 16 ∷ 8 ∷ []) ∷ (12 ∷ 13 ∷ 13 ∷ 9 ∷ 4 ∷ 11 ∷ 10 ∷ 0 ∷ []) ∷ []
unfolding verdict
several-right = refl

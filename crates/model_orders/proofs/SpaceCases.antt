-- The graphs that tell the order by spaces apart, by one claim over their list, which the checker computes.
use mathlib.Core.Path.{◌≡◌, refl}
use mathlib.Core.Bool.{true}
use Rattle.lists.specs.Lists.{same_list, total, first_that}
use Rattle.model_orders.specs.Bag.{one, count, without, zeros_of, last_once, least}
use Rattle.model_orders.specs.Graph.{kids_of, waits, reach_down, reached}
use Rattle.model_orders.specs.Order.{order_from, order_by}
use Rattle.model_orders.specs.Distance.{distance_along, relax, relax_all, distances_by, beyond, distance, kahn_order, distance_order}
use Rattle.model_orders.specs.Table.{before, offset, unfit_links, unfit_from}
use Rattle.model_orders.specs.Labels.{merged, merge, begun, numbers}
use Rattle.model_orders.specs.Space.{narrow, narrow_of, near_from, near, spot, join_kids, join_all, labels_by, space_in}
use Rattle.model_orders.specs.Copies.{grown_key, space_order, try_order, resolve, arranged}
use Rattle.model_orders.specs.SpaceCases.{right, all_right, cases}

pub spaces-right : all_right cases ≡ true
unfolding all_right right arranged resolve try_order space_order grown_key distance_along kahn_order space_in labels_by join_all join_kids spot near near_from narrow_of narrow numbers begun merge merged unfit_from unfit_links offset before distance_order distance distances_by beyond relax_all relax order_by order_from reached reach_down waits kids_of one count without zeros_of last_once least same_list total first_that
spaces-right = refl

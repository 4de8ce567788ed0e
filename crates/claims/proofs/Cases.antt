-- The hand-counted cases on lent memory, by one claim over their list, which the checker computes.
use mathlib.Core.Path.{◌≡◌, refl}
use mathlib.Core.Bool.{true}
use Rattle.lists.specs.Lists.{same_list, total, first_that, over, holds, zeros}
use Rattle.big_endian.specs.BigEndian.{big_endian}
use Rattle.model_orders.specs.Object.{any_hopeless}
use Rattle.model_orders.specs.Bag.{one, count, without, zeros_of, last_once, least}
use Rattle.model_orders.specs.Graph.{kids_of, waits, reach_down, reached}
use Rattle.model_orders.specs.Order.{order_from, order_by}
use Rattle.model_orders.specs.Distance.{distance_along, relax, relax_all, distances_by, beyond, distance, kahn_order, distance_order}
use Rattle.model_orders.specs.Table.{before, offset, unfit_links, unfit_from, filled, object_bytes, table_from, table_of}
use Rattle.model_orders.specs.Copies.{grown_key, space_order, try_order, resolve, arranged, table_by}
use Rattle.model.specs.Judge.{verdict}
use Rattle.model.specs.Cases.{cases}
use Rattle.layout.specs.Tables.{chain, chained, for_all}
use Rattle.layout.specs.Words.{links_of}
use Rattle.layout.specs.Fields.{field_tests, fields_ok}
use Rattle.layout.specs.Sound.{head_tests, head_ok, table_tests, sound_tests, sound}
use Rattle.layout.specs.Decode.{opens_to, closed_to, decode}
use Rattle.steps.specs.Steps.{start_step, open_step, put_step, link_step, drop_step, tally_step, twin_in, close_step}
use Rattle.steps.specs.Runs.{step_on, lent_step}
use Rattle.steps.specs.Pack.{pack_step}
use Rattle.claims.specs.Demand.{run}
use Rattle.claims.specs.Cases.{ids_told, counts_told, memory_right, right, all_right}

pub cases-right : all_right cases ≡ true
unfolding all_right right memory_right counts_told ids_told run lent_step pack_step step_on start_step open_step put_step link_step drop_step tally_step twin_in close_step opens_to closed_to decode head_tests head_ok table_tests sound_tests sound field_tests fields_ok links_of chain chained for_all verdict any_hopeless arranged resolve try_order space_order grown_key distance_along unfit_from unfit_links offset before table_by table_of table_from object_bytes filled kahn_order distance_order distance distances_by beyond relax_all relax order_by order_from reached reach_down waits kids_of one count without zeros_of last_once least same_list total first_that over holds zeros big_endian
cases-right = refl

-- Every case comes to what it says: one claim over their list, which the checker computes.
use mathlib.Core.Path.{◌≡◌, refl}
use mathlib.Core.Bool.{true}
use Rattle.lists.specs.Lists.{same_list, total, first_that, over, holds}
use Rattle.big_endian.specs.BigEndian.{big_endian}
use Rattle.model_orders.specs.Object.{any_hopeless}
use Rattle.model_orders.specs.Bag.{one, count, without, zeros_of, last_once, least}
use Rattle.model_orders.specs.Graph.{kids_of, waits, reach_down, reached}
use Rattle.model_orders.specs.Order.{order_from, order_by}
use Rattle.model_orders.specs.Distance.{kahn_order}
use Rattle.model_orders.specs.Table.{before, offset, unfit_links, unfit_from, filled, object_bytes, table_from, table_of}
use Rattle.model_orders.specs.Copies.{try_order, arranged, table_by}
use Rattle.model.specs.Judge.{verdict}
use Rattle.model.specs.Session.{step, pack}
use Rattle.text.specs.Digits.{all_digits, read_on}
use Rattle.text.specs.Decimal.{padded}
use Rattle.text_hex.specs.Hex.{bytes_of}
use Rattle.job_lines.specs.Lines.{in_front, cut}
use Rattle.job_items.specs.Item.{codes, starts_with, limit, piece_item, link_item, end_item, item}
use Rattle.job_rules.specs.Job.{turn, run, job}
use Rattle.job_rules.specs.Cases.{all_right, cases}

pub cases-right : all_right cases ≡ true
unfolding all_right job run turn item piece_item link_item end_item limit starts_with codes cut in_front all_digits read_on padded bytes_of step pack verdict any_hopeless arranged try_order unfit_from unfit_links offset before table_by table_of table_from object_bytes filled kahn_order order_by order_from reached reach_down waits kids_of one count without zeros_of last_once least same_list total first_that over holds big_endian
cases-right = refl

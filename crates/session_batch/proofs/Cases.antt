-- Every case comes to what it says: one claim over their list, which the checker computes.
use mathlib.Core.Path.{◌≡◌, refl}
use mathlib.Core.Bool.{true}
use Rattle.lists.specs.Lists.{same_list, first_that, over, holds, zeros}
use Rattle.model_orders.specs.Object.{any_hopeless}
use Rattle.model_orders.specs.Words.{links_of}
use Rattle.model.specs.Judge.{verdict}
use Rattle.layout.specs.Tables.{chain, chained, for_all}
use Rattle.layout.specs.Fields.{field_tests, fields_ok}
use Rattle.layout.specs.Decode.{closed_to}
use Rattle.layout.specs.Sound.{head_tests, head_ok, table_tests, sound_tests, sound}
use Rattle.steps.specs.Steps.{start_step, open_step, put_step, link_step, drop_step, twin_in, close_step}
use Rattle.steps.specs.Runs.{step_on}
use Rattle.session_batch.specs.Calls.{said}
use Rattle.session_batch.specs.Batch.{carried, batch_step}
use Rattle.session_batch.specs.Cases.{all_agree, cases}

pub cases-agree : all_agree cases ≡ true
unfolding all_agree batch_step carried said step_on start_step open_step put_step link_step drop_step twin_in close_step closed_to head_tests head_ok table_tests sound_tests sound field_tests fields_ok links_of chain chained for_all verdict any_hopeless same_list first_that over holds zeros
cases-agree = refl

-- The answer of the proved call as four numbers, beside what it left.
use mathlib.Core.Path.{ap}
use Rattle.capi_answer.specs.Cable.{in_numbers}
use Rattle.capi.proofs.cable.scoterlime_feed.Goals as goal

pub returns : goal.returns
returns c = rw c.tell_fed.ensures (ap in_numbers c.feed-told.ensures)

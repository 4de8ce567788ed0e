-- The answer of the proved call as two numbers, beside what it left.
use mathlib.Core.Path.{ap, ◌∙◌}
use Rattle.capi_answer.specs.Cable.{sent_numbers}
use Rattle.capi.proofs.cable.scoterlime_send.Goals as goal

pub returns : goal.returns
returns c = (c.tell_sent.ensures ∙ ap sent_numbers c.send.ensures.0, c.send.ensures.1)

-- The answer of the proved call as twelve numbers, beside what it left.
use Rattle.capi.proofs.calls.scoterlime_close.Goals as goal

pub returns : goal.returns
returns c = rw c.tell_close.ensures c.close.ensures

-- The answer of the proved call as twelve numbers, beside what it left.
use Rattle.capi.proofs.calls.scoterlime_put.Goals as goal

pub returns : goal.returns
returns c = rw c.tell.ensures c.put.ensures

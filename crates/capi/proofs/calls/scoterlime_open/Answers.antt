-- The answer of the proved call as twelve numbers, beside what it left.
use Rattle.capi.proofs.calls.scoterlime_open.Goals as goal

pub returns : goal.returns
returns c = rw c.tell.ensures c.«open».ensures

-- The answer of the proved call as twelve numbers, beside what it left.
use Rattle.capi.proofs.packing.scoterlime_pack.Goals as goal

pub returns : goal.returns
returns c = rw c.tell_pack.ensures c.pack.ensures

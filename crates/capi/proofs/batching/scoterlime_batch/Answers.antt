-- The answer of the proved call as seven numbers, beside what it left.
use Rattle.capi.proofs.batching.scoterlime_batch.Goals as goal

pub returns : goal.returns
returns c = rw c.tell_batch.ensures c.batch.ensures

-- The seven numbers are those of the definition.
use Rattle.capi_answer.proofs.batches.tell_batch.Goals as goal

pub returns : goal.returns
returns c = rw c.end_number.ensures

-- The answer of the proved call as seven numbers, beside what it left.
use Rattle.capi.proofs.reading.scoterlime_read_gsub.Goals as goal

pub returns : goal.returns
returns c = rw c.tell_read.ensures c.read_gsub.ensures

-- The answer of the proved call as twelve numbers, beside what it left.
use Rattle.capi.proofs.promoting.scoterlime_promote_gsub.Goals as goal

pub returns : goal.returns
returns c = rw c.tell_promote.ensures c.promote_gsub.ensures

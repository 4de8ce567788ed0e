-- `lead_link` meets its contract: one half of one word.
use Rattle.order_grow.proofs.Leading.{leading-all}
use Rattle.order_grow.proofs.lead_link.Goals as goal

pub returns : goal.returns
returns c = leading-all c.requires c.words_at-j.ensures.1

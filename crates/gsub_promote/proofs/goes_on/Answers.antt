-- By the refusal.
use Rattle.gsub_promote.proofs.Trying.{no_11}
use Rattle.gsub_promote.proofs.goes_on.Goals as goal

pub returns-in_default : goal.returns-in_default
returns-in_default c = rw (no_11 _ c.in_default.not-Overflow)

pub returns : goal.returns
returns c = rw c.in-Overflow.is

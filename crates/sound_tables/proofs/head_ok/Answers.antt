-- A store too short for its tables is refused at once; past that, the limits and the counts decide.
use native.Mathlib.Omega.{arith}
use Rattle.layout.proofs.Facts.{head-not, head-joined}
use Rattle.sound_tables.proofs.head_ok.Goals as goal

pub returns-then-records-lt-LINKS_AT : goal.returns-then-records-lt-LINKS_AT
returns-then-records-lt-LINKS_AT c = head-not _ _ (λ h. omega arith)

pub returns-then-records-word : goal.returns-then-records-word
returns-then-records-word c = head-not _ _ (λ h. omega arith)

pub returns : goal.returns
returns c = rw (c.limits_ok.ensures, c.counts_ok.ensures) (head-joined _ _)

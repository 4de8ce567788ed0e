use Rattle.std.proofs.Common.{length}
use Rattle.cases.proofs.run.Given as goal

abbrev pub decreases-loop-named : goal.decreases-loop-named
decreases-loop-named g l = length l.rest

-- `run` meets its contract: what is left, done to the stores as they are, is the whole; with each op less is left.
use lib.ListN.{length}
use Rattle.gsub_walk.specs.Rest.{rest_of}
use Rattle.gsub_read.proofs.Loops.{Walking}
use Rattle.gsub_read.proofs.run.run.Given as goal

abbrev pub invariant-loop-walk : goal.invariant-loop-walk
invariant-loop-walk l = Walking l.table l.initial.store l.initial.records l.initial.walk l.initial.last l.store l.records l.walk l.last

abbrev pub decreases-loop-walk : goal.decreases-loop-walk
decreases-loop-walk l = length (rest_of l.table l.walk)

-- The walk stands after each move, and less of it is left.
use lib.ListN.{length}
use Rattle.gsub_walk.specs.Rest.{rest_of, Standing}
use Rattle.gsub_show.proofs.visits.visits.Given as goal

abbrev pub invariant-loop-next : goal.invariant-loop-next
invariant-loop-next l = Standing l.walk

abbrev pub decreases-loop-next : goal.decreases-loop-next
decreases-loop-next l = length (rest_of l.table l.walk)

use Rattle.std.proofs.Common.{length, ◌≤◌}
use Rattle.cases.proofs.run_lines.Given as goal

abbrev pub invariant-loop-op : goal.invariant-loop-op
invariant-loop-op g l = length l.rest ≤ length l.input

abbrev pub decreases-loop-op : goal.decreases-loop-op
decreases-loop-op g l = length l.rest

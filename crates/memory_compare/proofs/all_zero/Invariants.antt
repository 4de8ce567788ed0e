-- Every byte is zero exactly if those that are left are.
use Rattle.std.proofs.Common.{◌≡◌}
use Rattle.std.specs.Slice.Iter.{chunks_rest}
use Rattle.lists.specs.Lists.{zeros}
use Rattle.memory_compare.proofs.all_zero.Given as goal

abbrev pub invariant-loop-run : goal.invariant-loop-run
invariant-loop-run l = zeros l.s ≡ zeros (chunks_rest l.run-iterator)

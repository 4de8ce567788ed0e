use Rattle.std.proofs.Common.{◌*◌, ◌≤◌}
use Rattle.big_endian.specs.BigEndian.{capacity}
use Rattle.gsub_show.proofs.substitutes.differing.Given as goal

abbrev pub invariant-loop-lookup : goal.invariant-loop-lookup
invariant-loop-lookup l = l.n ≤ l.lookup * capacity 2

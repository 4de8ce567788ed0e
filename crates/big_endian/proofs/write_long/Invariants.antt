-- `write_long` meets its contract: what is left of the number, written over the list as it is now, is the list that is promised.
use mathlib.Core.Path.{◌≡◌}
use Rattle.lists.specs.Lists.{over}
use Rattle.big_endian.specs.BigEndian.{big_endian}
use Rattle.big_endian.proofs.write_long.Given as goal

abbrev pub invariant-loop-k : goal.invariant-loop-k
invariant-loop-k l = over l.at (big_endian l.width l.n) l.initial.out ≡ over l.at (big_endian l.k l.rest) l.out

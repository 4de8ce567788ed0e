-- `write_long` meets its contract: what is left of the number, written over the list as it is now, is the list that is promised.
use mathlib.Core.Path.{sym, ◌∙◌}
use native.Mathlib.Omega.{arith}
use Rattle.big_endian.proofs.Turns.{write-turn, write-end}
use Rattle.big_endian.proofs.write_long.Goals as goal

pub loop-k-preserved : goal.loop-k-preserved
loop-k-preserved c = let l = c.loop-k in l.invariant ∙ write-turn _ l.k l.rest l.out (omega arith) (omega arith)

pub returns : goal.returns
returns c = let l = c.loop-k in sym (l.invariant ∙ write-end _ l.k l.rest l.out (omega arith))

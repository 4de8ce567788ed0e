-- Two stores are a list of two written over.
use native.Mathlib.Omega.{arith}
use lib.ListN.{length-set}
use Rattle.text_hex.proofs.PairTurns.{pair_put}
use borrow.Author.Rules.{rules}
use Rattle.text_hex.proofs.put_pair.Goals as goal

pub bounds-out-at-2 : goal.bounds-out-at-2
bounds-out-at-2 c = simp length-set (omega arith)

pub returns : goal.returns
returns c = rw (c.digit-2.ensures, c.digit.ensures, c.from-n.ensures) (pair_put _ _ _ (search rules))

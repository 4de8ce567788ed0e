-- The bytes left, written over the slice as it is, give what the contract says.
use mathlib.Core.Path.{sym, ◌∙◌}
use Rattle.text_hex.proofs.PairTurns.{bytes-turn, bytes-end}
use borrow.Author.Rules.{rules}
use Rattle.text_hex.proofs.get_pairs.Goals as goal

pub loop-i-preserved : goal.loop-i-preserved
loop-i-preserved c =
    let l = c.loop-i in
    rw c.pair_value.ensures (bytes-turn l.i _ l.out (search rules) (search rules)) ∙ l.invariant

pub returns : goal.returns
returns c = sym (bytes-end c.loop-i.i _ c.loop-i.out (search rules)) ∙ c.loop-i.invariant

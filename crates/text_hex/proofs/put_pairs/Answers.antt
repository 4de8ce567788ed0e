-- The pairs left, written over the slice as it is, give what the contract says.
use mathlib.Core.Path.{sym, ◌∙◌}
use native.Mathlib.Nat.{add-zero}
use Rattle.text_hex.proofs.PairTurns.{pairs-turn, pairs_end}
use borrow.Author.Rules.{rules}
use Rattle.text_hex.proofs.put_pairs.Goals as goal

pub loop-i-init : goal.loop-i-init
loop-i-init c = rw add-zero

pub loop-i-preserved : goal.loop-i-preserved
loop-i-preserved c =
    let p = c.put_pair in
    let l = c.loop-i in
    let a = c.args in
    rw p.ensures (pairs-turn a.at l.i a.bytes.now l.out (search rules) (search rules)) ∙ l.invariant

pub returns : goal.returns
returns c = let l = c.loop-i in sym (pairs_end _ l.i _ l.out (search rules)) ∙ l.invariant

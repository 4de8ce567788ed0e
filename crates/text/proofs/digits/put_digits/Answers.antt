-- The digits left, written over the slice as it is, give what the contract says.
use mathlib.Core.Path.{◌≡◌, sym, ◌∙◌}
use Prim.Native.Nat.{◌+◌, ◌-◌, ◌≤◌}
use native.Mathlib.Omega.{arith}
use Rattle.text.proofs.DigitTurns.{digits-turn, digits-end}
use borrow.Author.Rules.{rules}
use Rattle.text.proofs.digits.put_digits.Goals as goal

pub loop-i-preserved : goal.loop-i-preserved
loop-i-preserved c =
    let l = c.loop-i in
    let a = c.args in
    let t : a.at ≤ l.i - 1 = omega arith in
    let p : a.at + (l.i - a.at - 1) ≡ l.i - 1 = omega arith in
    let q : l.i - a.at - 1 ≡ l.i - 1 - a.at = omega arith in
    rw (c.digit.ensures, ← q) (rw p at (digits-turn a.base a.at (l.i - a.at) l.rest l.out (omega arith) (omega arith)) ∙ l.invariant)

pub returns : goal.returns
returns c = let l = c.loop-i in sym (digits-end _ _ (l.i - c.args.at) l.rest l.out (search rules)) ∙ l.invariant

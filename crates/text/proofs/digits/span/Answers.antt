-- The place of the first character that is no digit, or the length, is how many digits stand in front.
use mathlib.Core.Path.{◌≡◌, sym, ◌∙◌}
use mathlib.Core.Bool.{cond}
use Prim.Native.Nat.{ℕ, ◌≤◌}
use native.Mathlib.Omega.{arith}
use lib.Dec.{leb, ltb}
use lib.ListN.{length}
use borrow.Author.Rules.{rules}
use Rattle.std.specs.Prelude.{Option, Some, None, unwrap_or}
use Rattle.std.specs.List.{position_or_len}
use Rattle.std.proofs.lemmas.Grind.{common_steps}
use Rattle.std.proofs.lemmas.Iterator.{YieldsList-from_slice}
use Rattle.std.proofs.lemmas.Iterator.Search.{position_from_yields_List}
use Rattle.std.proofs.lemmas.List.Sums.{prefix_len-le-length}
use Rattle.text.specs.Digits.{value_of}
use Rattle.text.proofs.DigitTurns.{span-place}
use Rattle.text.proofs.digits.span.Goals as goal

or_end : (p n : ℕ) (r : Option ℕ) → p ≤ n → r ≡ cond (ltb p n) (Some p) None → unwrap_or r n ≡ p
or_end p n r h e = grind (arith, common_steps)

pub returns : goal.returns
returns c =
    let t = λ (x : ℕ). leb c.args.base (value_of x) in
    let l = c.args.s.now in
    let e = position_from_yields_List t _ _ _ c.position.ensures.ran (YieldsList-from_slice l cc) (λ x b q k. search rules) in
    c.unwrap_or.ensures ∙ or_end (position_or_len t l) (length l) _ (prefix_len-le-length _ l) e ∙ sym (span-place c.args.base l)

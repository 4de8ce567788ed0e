-- Pairs, and only digits.
use mathlib.Core.Path.{◌≡◌, sym, ◌∙◌}
use Prim.Native.Nat.{◌%◌}
use mathlib.Core.Bool.{true, false}
use lib.Dec.{eqb}
use lib.ListN.{length}
use borrow.Author.Tests.{eq-eqb, ne_eqb}
use Rattle.text.specs.Digits.{all_digits}
use Rattle.job_items.specs.Item.{piece_item}
use Rattle.job_items.proofs.piece_item.Goals as goal

pub returns-then-v-ne0 : goal.returns-then-v-ne0
unfolding piece_item
returns-then-v-ne0 c =
    let o : eqb (length c.args.v.now % 2) 0 ≡ false = ne_eqb _ _ c.if-v-ne0.true in
    rw o

pub returns-then-not-all_digits : goal.returns-then-not-all_digits
unfolding piece_item
returns-then-not-all_digits c =
    let e : all_digits 16 _ ≡ false = sym c.all_digits.ensures ∙ c.if-not-all_digits.true in
    rw (eq-eqb _ _ c.if-v-ne0.false, e)

pub returns : goal.returns
unfolding piece_item
returns c =
    let e : all_digits 16 _ ≡ true = sym c.all_digits.ensures ∙ c.if-not-all_digits.false in
    rw (eq-eqb _ _ c.if-v-ne0.false, e)

-- Each test in turn.
use mathlib.Core.Path.{◌≡◌, sym, ◌∙◌}
use borrow.Author.Tests.{eq-eqb, ne_eqb, le-leb, lt-leb}
use mathlib.Core.Bool.{true, false}
use Rattle.lists.specs.Lists.{holds}
use lib.ListN.{length}
use Rattle.text.specs.Digits.{all_digits}
use Rattle.text.specs.Decimal.{padded}
use borrow.Author.Rules.{rules}
use Rattle.text.proofs.decimal.read_number.Goals as goal

pub returns-then-is_empty : goal.returns-then-is_empty
unfolding holds
returns-then-is_empty c = rw (eq-eqb (length c.args.s.now) 0 (search rules))

pub returns-then-s-gt-MOST_DIGITS : goal.returns-then-s-gt-MOST_DIGITS
unfolding holds
returns-then-s-gt-MOST_DIGITS c = rw (ne_eqb (length c.args.s.now) 0 (search rules), lt-leb _ _ c.if-s-gt-MOST_DIGITS.true)

pub returns-then-not-all_digits : goal.returns-then-not-all_digits
unfolding holds
returns-then-not-all_digits c =
    let e : all_digits 10 _ ≡ false = sym c.all_digits.ensures ∙ c.if-not-all_digits.true in
    rw (ne_eqb (length c.args.s.now) 0 (search rules), le-leb _ _ c.if-s-gt-MOST_DIGITS.false, e)

pub returns-then-padded : goal.returns-then-padded
unfolding holds
returns-then-padded c =
    let e : all_digits 10 _ ≡ true = sym c.all_digits.ensures ∙ c.if-not-all_digits.false in
    let f : padded _ ≡ true = sym c.padded.ensures ∙ c.if-padded.true in
    rw (ne_eqb (length c.args.s.now) 0 (search rules), le-leb _ _ c.if-s-gt-MOST_DIGITS.false, e, f)

pub value-requires : goal.value-requires
value-requires c = (search rules, sym c.all_digits.ensures ∙ c.if-not-all_digits.false)

pub returns : goal.returns
unfolding holds
returns c =
    let e : all_digits 10 _ ≡ true = sym c.all_digits.ensures ∙ c.if-not-all_digits.false in
    let f : padded _ ≡ false = sym c.padded.ensures ∙ c.if-padded.false in
    rw (ne_eqb (length c.args.s.now) 0 (search rules), le-leb _ _ c.if-s-gt-MOST_DIGITS.false, e, f, c.value.ensures)

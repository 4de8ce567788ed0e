-- The digits behind the awaited frame's front, read as a number.
use Rattle.std.proofs.Common.{◌≡◌, ◌+◌, ◌<◌, length, ℕ, List, drop, ap, ◌∙◌, arith}
use Rattle.std.proofs.Math.ListN.{length-take, drop_of_length-le}
use Rattle.std.specs.List.{slice_range}
use Rattle.lists.specs.Lists.{holds}
use Rattle.lists.proofs.Runs.{part-rest}
use Rattle.text.proofs.Decimals.{width-ten}
use Rattle.text.proofs.DigitTurns.{span-most}
use Rattle.text.specs.Decimal.{width}
use Rattle.text.specs.Digits.{span}
use Rattle.cable_compare.specs.Compare.{before_count, count_from}
use Rattle.cable_judge.specs.Judge.{told_count}
use Rattle.cable_judge.proofs.judging.told_count.Goals as goal

-- what stands from the count on
rest-is : (w n : ℕ) (s r : List ℕ) → w ≡ width n → r ≡ slice_range s (w + before_count) (length s) → r ≡ drop (count_from n) s
rest-is w n s r e f = f ∙ part-rest (w + before_count) s ∙ ap (λ k. drop (k + before_count) s) e

pub overflow_add-width : goal.overflow_add-width
overflow_add-width c = omega (arith, width-ten c.args.n)

pub returns-in_default : goal.returns-in_default
unfolding told_count span holds
returns-in_default c =
    let h : length c.args.s.now < count_from c.args.n = omega (arith, c.in_default.ensures.lookup.0, c.width.ensures) in
    rw (drop_of_length-le c.args.s.now {i = count_from c.args.n} (omega arith))

pub slice_bounds-read_number-end : goal.slice_bounds-read_number-end
slice_bounds-read_number-end c = omega (arith, c.span-end.ensures, span-most 10 c.in-Some.rest.now, length-take c.span-end.result c.in-Some.rest.now)

pub returns : goal.returns
unfolding told_count
returns c =
    rw (c.unwrap_or.ensures, c.read_number.ensures, c.span-end.ensures, rest-is c.width.result c.args.n c.args.s.now c.in-Some.rest.now c.width.ensures c.in-Some.ensures.lookup.0.2)

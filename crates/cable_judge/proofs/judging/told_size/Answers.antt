-- What is left of the stretch between the data's place and its last sixteen bytes.
use Rattle.std.proofs.Common.{arith}
use Rattle.text.proofs.Decimals.{width-ten}
use Rattle.cable_judge.specs.Judge.{told_size}
use Rattle.cable_judge.proofs.judging.told_size.Goals as goal

pub overflow_add-data_from : goal.overflow_add-data_from
overflow_add-data_from c = omega (arith, c.data_from.ensures, width-ten c.args.place.number, width-ten c.args.place.count)

pub returns : goal.returns
unfolding told_size
returns c = rw (c.saturating_sub.ensures, c.data_from.ensures)

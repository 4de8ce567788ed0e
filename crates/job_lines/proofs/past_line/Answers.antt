-- No line is longer than what is left of the text, and past the end none is left.
use native.Mathlib.Omega.{arith}
use lib.ListN.{drop, take, length, length-drop, length-take}
use Prim.Native.Nat.{◌-◌}
use Rattle.job_lines.proofs.Cutting.{line-most}
use Rattle.job_lines.proofs.past_line.Goals as goal

pub returns-then-text-at : goal.returns-then-text-at
returns-then-text-at c = let d = c.args in omega (arith, line-most (drop d.at d.text.now), length-drop d.at d.text.now)

pub overflow_add-result : goal.overflow_add-result
overflow_add-result c =
    let d = c.args in
    let l = d.text.now in
    let rest = take (length l - d.at) (drop d.at l) in
    omega (arith, c.line_length.ensures, line-most rest, length-take (length l - d.at) (drop d.at l), length-drop d.at l)

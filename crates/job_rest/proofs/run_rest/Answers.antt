-- The job goes on from what is left of the text, with the objects and ids that the stores hold.
use Rattle.job_rest.proofs.Going.{going-none, going-over, going-halts, going_next}
use Rattle.job_header.proofs.Lined.{part-inside, part-some, part-short}
use native.Mathlib.Omega.{arith}
use borrow.Author.Rules.{rules}
use Rattle.job_rest.proofs.run_rest.Goals as goal

pub loop-at-init : goal.loop-at-init
loop-at-init c =
    let args = c.args in
    let pre = c.requires in
    going-none args.text.now args.from _ _ _ pre.0 (search rules)

pub later_line-lead-requires : goal.later_line-lead-requires
later_line-lead-requires c =
    let args = c.args in
    let loop = c.loop-at in
    let next-line = c.next_line-part in
    (loop.invariant.is_sound, rw next-line.ensures (omega (arith, part-short args.text.now loop.at)), omega (arith, loop.invariant.few, loop.invariant.inside))

pub overflow_add-at : goal.overflow_add-at
overflow_add-at c =
    let args = c.args in
    let loop = c.loop-at in
    let next-line = c.next_line-part in
    rw next-line.ensures (omega (arith, part-inside args.text.now loop.at loop.invariant.inside))

pub overflow_add-line : goal.overflow_add-line
overflow_add-line c =
    let loop = c.loop-at in
    omega (arith, loop.invariant.short, loop.invariant.inside)

pub returns-in_default : goal.returns-in_default
returns-in_default c = going-halts c.loop-at.invariant c.next_line-part.ensures (omega arith) c.later_line-lead.ensures.1 c.in_default.ensures

pub loop-at-smaller : goal.loop-at-smaller
loop-at-smaller c =
    let args = c.args in
    let loop = c.loop-at in
    let next-line = c.next_line-part in
    rw next-line.ensures (omega (arith, part-some args.text.now loop.at (omega arith)))

pub loop-at-preserved : goal.loop-at-preserved
loop-at-preserved c =
    let loop = c.loop-at in
    let next-line = c.next_line-part in
    let later-line = c.later_line-lead in
    going_next loop.invariant next-line.ensures (omega arith) later-line.ensures.1 c.in-Some.ensures later-line.ensures.0

pub returns : goal.returns
returns c = going-over c.loop-at.invariant (omega arith)

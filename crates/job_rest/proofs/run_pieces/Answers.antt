-- The first piece line, and where it is one the lines behind it.
use Rattle.job_rest.proofs.Going.{first-halts, first_rest}
use Rattle.job_header.proofs.Lined.{part-inside, part-short}
use native.Mathlib.Omega.{arith}
use borrow.Author.Rules.{rules}
use Rattle.job_rest.proofs.run_pieces.Goals as goal

pub first_line-lead-requires : goal.first_line-lead-requires
first_line-lead-requires c =
    let pre = c.requires in
    let args = c.args in
    let next-line = c.next_line-part in
    (pre.0, rw next-line.ensures (omega (arith, part-short args.text.now args.from)))

pub overflow_add-at : goal.overflow_add-at
overflow_add-at c =
    let args = c.args in
    let pre = c.requires in
    let next-line = c.next_line-part in
    rw next-line.ensures (omega (arith, part-inside args.text.now args.from pre.2))

pub returns-in_default : goal.returns-in_default
returns-in_default c =
    first-halts c.args.text.now c.args.from _ _ c.next_line-part.ensures c.requires.2 (c.first_line-lead.ensures c.args.ids.now) c.in_default.ensures (omega arith)

pub run_rest-requires : goal.run_rest-requires
run_rest-requires c =
    let args = c.args in
    let pre = c.requires in
    let next-line = c.next_line-part in
    let first-line = c.first_line-lead in
    ((first-line.ensures args.ids.now).is_sound, search rules, rw next-line.ensures (part-inside args.text.now args.from pre.2), search rules, search rules)

pub returns : goal.returns
returns c =
    first_rest c.args.text.now c.args.from _ _ c.next_line-part.ensures c.requires.2 (c.first_line-lead.ensures c.args.ids.now) c.in-Some.ensures c.run_rest.ensures

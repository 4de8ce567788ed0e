-- What is left of the line, from how far it agrees now, gives how far all of it does.
use Rattle.cable_scan.proofs.Scans.{line-settled, line-turn, quiet-turn, line-none}
use mathlib.Core.Path.{sym, ◌∙◌}
use borrow.Author.Rules.{rules}
use Rattle.cable_scan.proofs.line_after.Goals as goal

pub returns-then-state-ge-AGREED : goal.returns-then-state-ge-AGREED
returns-then-state-ge-AGREED c = sym (line-settled c.loop-b.state _ (search rules) c.loop-b.invariant.0) ∙ c.loop-b.invariant.1

pub loop-b-preserved : goal.loop-b-preserved
loop-b-preserved c =
    let l = c.loop-b in
    let v = c.args.bytes.now in
    (quiet-turn l.b-index v (search rules) l.invariant.0, rw c.line_next-state.ensures (sym (line-turn l.b-index v (search rules) l.state) ∙ l.invariant.1))

pub returns : goal.returns
returns c = sym (line-none c.loop-b.state c.loop-b.b-index _ (search rules)) ∙ c.loop-b.invariant.1

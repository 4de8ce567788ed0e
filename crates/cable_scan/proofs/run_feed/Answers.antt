-- A run that has no line feed by the one look has none at any place.
use mathlib.Core.Path.{sym, ◌∙◌}
use native.Mathlib.Omega.{arith}
use lib.Seq.{get_or-take}
use borrow.Author.Tests.{eq-eqb, eqb-true}
use borrow.Author.Rules.{rules}
use Rattle.memchr.specs.Find.{is_byte}
use Rattle.memchr.proofs.lemmas.FindLemmas.{Nowhere-more}
use Rattle.cable_frame.specs.Frame.{line_feed}
use Rattle.cable_scan.proofs.Feeds.{first-given}
use Rattle.cable_scan.proofs.Front.{quiet-nowhere}
use Rattle.cable_scan.proofs.run_feed.Goals as goal

pub returns-then-run_quiet : goal.returns-then-run_quiet
returns-then-run_quiet c = λ k low high. quiet-nowhere c.args.run.now (sym c.run_quiet.ensures ∙ c.if-run_quiet.true) k high

pub returns-then-b-eq10 : goal.returns-then-b-eq10
returns-then-b-eq10 c =
    let l = c.loop-i in
    let here = get_or-take c.min.result c.args.run.now l.i 0 (search rules) in
    (record { low = omega arith; high = search rules; before = l.invariant }, eq-eqb _ line_feed (sym here ∙ c.if-b-eq10.true))

pub loop-i-preserved : goal.loop-i-preserved
loop-i-preserved c =
    let l = c.loop-i in
    let here = get_or-take c.min.result c.args.run.now l.i 0 (search rules) in
    Nowhere-more l.invariant (λ p. c.if-b-eq10.false (here ∙ eqb-true _ line_feed p))

pub returns : goal.returns
returns c = first-given (is_byte line_feed) c.args.run.now _ _ c.next.result c.memchr_iter.ensures.value c.next.ensures.steps

-- What is left, scanned on from here, gives the scan of all.
use Rattle.cable_scan.proofs.Scans.{feed-found, feed-missed, line-last, line-ends, line-on}
use native.Mathlib.Omega.{arith}
use mathlib.Core.Path.{◌∙◌}
use Rattle.cable_scan.proofs.scan.Goals as goal

pub line_after-requires : goal.line_after-requires
line_after-requires c = let t = c.args.text.now in (feed-found t c.loop-size.from c.loop-size.invariant.0 c.in-Some.size c.in-Some.ensures.0 c.in-Some.ensures.1).none

pub returns-then-line_after-eq-AGREED : goal.returns-then-line_after-eq-AGREED
returns-then-line_after-eq-AGREED c =
    let t = c.args.text.now in
    let l = c.loop-size in
    let f = feed-found t l.from l.invariant.0 c.in-Some.size c.in-Some.ensures.0 c.in-Some.ensures.1 in
    line-ends t l.from _ l.state _ f c.line_after.ensures c.if-line_after-eq-AGREED.true ∙ l.invariant.1

pub loop-size-preserved : goal.loop-size-preserved
loop-size-preserved c =
    let t = c.args.text.now in
    let l = c.loop-size in
    let f = feed-found t l.from l.invariant.0 c.in-Some.size c.in-Some.ensures.0 c.in-Some.ensures.1 in
    (omega (arith, f.inside), line-on t l.from _ l.state _ f c.line_after.ensures c.if-line_after-eq-AGREED.false ∙ l.invariant.1)

pub line_after-requires-2 : goal.line_after-requires-2
line_after-requires-2 c = feed-missed c.args.text.now c.loop-size.from c.loop-size.invariant.0 c.in_default.ensures

pub returns : goal.returns
returns c =
    let t = c.args.text.now in
    let l = c.loop-size in
    line-last t l.from l.state _ l.invariant.0 (feed-missed t l.from l.invariant.0 c.in_default.ensures) c.line_after-2.ensures ∙ l.invariant.1

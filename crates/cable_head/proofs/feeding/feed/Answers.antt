-- Each way through a feed is a law.
use Rattle.std.proofs.Common.{◌∙◌, arith}
use Rattle.std.proofs.Math.ListN.{length-take}
use Rattle.cable_head.proofs.Feeds.{feed-short, taken-inside, feed-on, feed-end}
use Rattle.cable_head.proofs.feeding.feed.Goals as goal

pub returns-then-head-lt-NEED : goal.returns-then-head-lt-NEED
returns-then-head-lt-NEED c = feed-short _ _ _ c.if-head-lt-NEED.true

pub slice_bounds-conclude-end : goal.slice_bounds-conclude-end
slice_bounds-conclude-end c =
    let a = c.args in
    let s = c.scan-s in
    omega (arith, length-take s.result.taken a.text.now, taken-inside a.head.now a.text.now a.out.now c.if-head-lt-NEED.false s.result (s.ensures ∙ rw c.number_at.ensures))

pub returns-in_default : goal.returns-in_default
returns-in_default c =
    let a = c.args in
    let s = c.scan-s in
    feed-end a.head.now a.text.now a.out.now c.if-head-lt-NEED.false s.result (s.ensures ∙ rw c.number_at.ensures) c.in_default.is _ _ _ c.conclude-answer.ensures

pub slice_bounds-hold-end : goal.slice_bounds-hold-end
slice_bounds-hold-end c =
    let a = c.args in
    let s = c.scan-s in
    omega (arith, length-take s.result.taken a.text.now, taken-inside a.head.now a.text.now a.out.now c.if-head-lt-NEED.false s.result (s.ensures ∙ rw c.number_at.ensures))

pub returns : goal.returns
returns c =
    let a = c.args in
    let s = c.scan-s in
    feed-on a.head.now a.text.now a.out.now c.if-head-lt-NEED.false s.result (s.ensures ∙ rw c.number_at.ensures) c.in-Some.line c.in-Some.is _ c.hold.ensures

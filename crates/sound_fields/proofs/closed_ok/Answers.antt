-- The closed objects are right exactly if those that are left are.
use borrow.Author.Rules.{rules}
use mathlib.Core.Path.{◌≡◌, sym, ◌∙◌}
use Prim.Native.Nat.{◌-◌}
use native.Mathlib.Omega.{arith}
use Rattle.layout.specs.Fields.{closed_ok}
use Rattle.layout.specs.Decode.{closed_at}
use Rattle.layout.proofs.Facts.{own-head, tested}
use Rattle.sound_fields.proofs.ForAll.{for_all-next, for_all-none}
use Rattle.sound_fields.proofs.closed_ok.Goals as goal

pub read_counts-k-requires : goal.read_counts-k-requires
read_counts-k-requires c = own-head c.requires.0

pub loop-i-init : goal.loop-i-init
loop-i-init c = (search rules, rw c.read_counts-k.ensures.closed_is)

pub closed_span-requires : goal.closed_span-requires
closed_span-requires c =
    let pre = c.requires in
    (tested pre.0 pre.1, c.read_counts-k.ensures.objects_is, omega arith)

pub closed_span_ok-requires : goal.closed_span_ok-requires
closed_span_ok-requires c = (omega arith, c.requires.0, c.closed_span.ensures.within)

pub returns-then-not-closed_span_ok : goal.returns-then-not-closed_span_ok
returns-then-not-closed_span_ok c =
    let l = c.loop-i in
    let a = c.args in
    let looked : closed_ok (l.i - 1) (closed_at a.store.now a.records.now (l.i - 1)) ≡ c.closed_span_ok.result = sym (rw c.closed_span.ensures.is at c.closed_span_ok.ensures) in
    sym (l.invariant.1 ∙ for_all-next _ l.i c.loop-i-test.true ∙ rw (looked ∙ c.if-not-closed_span_ok.true))

pub loop-i-preserved : goal.loop-i-preserved
loop-i-preserved c =
    let l = c.loop-i in
    let a = c.args in
    let looked : closed_ok (l.i - 1) (closed_at a.store.now a.records.now (l.i - 1)) ≡ c.closed_span_ok.result = sym (rw c.closed_span.ensures.is at c.closed_span_ok.ensures) in
    (search rules, l.invariant.1 ∙ for_all-next _ l.i c.loop-i-test.true ∙ rw (looked ∙ c.if-not-closed_span_ok.false))

pub returns : goal.returns
returns c = sym (c.loop-i.invariant.1 ∙ for_all-none _ c.loop-i.i c.loop-i-test.false)

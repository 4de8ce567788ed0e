-- The open objects are right exactly if those that are left are.
use borrow.Author.Rules.{rules}
use mathlib.Core.Path.{◌≡◌, sym, ◌∙◌}
use Prim.Native.Nat.{◌-◌}
use native.Mathlib.Omega.{arith}
use Rattle.layout.specs.Words.{closed_count}
use Rattle.layout.specs.Fields.{object_ok}
use Rattle.layout.specs.Decode.{open_at}
use Rattle.layout.proofs.Facts.{own-head, tested}
use Rattle.sound_fields.proofs.ForAll.{for_all-next, for_all-none}
use Rattle.sound_fields.proofs.opens_ok.Goals as goal

pub read_counts-k-requires : goal.read_counts-k-requires
read_counts-k-requires c = own-head c.requires.0

pub loop-d-init : goal.loop-d-init
loop-d-init c = (search rules, rw c.read_counts-k.ensures.depth_is)

pub open_span-requires : goal.open_span-requires
open_span-requires c = let pre = c.requires in (tested pre.0 pre.1, omega arith)

pub span_ok-requires : goal.span_ok-requires
span_ok-requires c = (omega arith, c.requires.0, c.open_span.ensures.within)

pub returns-then-not-span_ok : goal.returns-then-not-span_ok
returns-then-not-span_ok c =
    let l = c.loop-d in
    let a = c.args in
    let looked : object_ok (closed_count a.records.now) (open_at a.store.now a.records.now (l.d - 1)) ≡ c.span_ok.result =
    sym (rw (c.read_counts-k.ensures.closed_is, c.open_span.ensures.is) at c.span_ok.ensures) in
    sym (l.invariant.1 ∙ for_all-next _ l.d c.loop-d-test.true ∙ rw (looked ∙ c.if-not-span_ok.true))

pub loop-d-preserved : goal.loop-d-preserved
loop-d-preserved c =
    let l = c.loop-d in
    let a = c.args in
    let looked : object_ok (closed_count a.records.now) (open_at a.store.now a.records.now (l.d - 1)) ≡ c.span_ok.result =
    sym (rw (c.read_counts-k.ensures.closed_is, c.open_span.ensures.is) at c.span_ok.ensures) in
    (search rules, l.invariant.1 ∙ for_all-next _ l.d c.loop-d-test.true ∙ rw (looked ∙ c.if-not-span_ok.false))

pub returns : goal.returns
returns c = sym (c.loop-d.invariant.1 ∙ for_all-none _ c.loop-d.d c.loop-d-test.false)

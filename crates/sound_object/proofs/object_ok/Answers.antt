-- The fields are right exactly if those that are left are, past the last one.
use Rattle.std.proofs.Common.{◌+◌, ap, sym, ◌∙◌, arith}
use Rattle.model_orders.specs.Object.{Link}
use Rattle.layout.proofs.FieldTests.{fields-next, fields-all}
use Rattle.sound_object.proofs.object_ok.Goals as goal

pub returns-then-not-field_ok : goal.returns-then-not-field_ok
returns-then-not-field_ok c =
    let l = c.loop-words in
    let next = c.in-Some.ensures.steps in
    let z = sym c.field_ok.ensures ∙ c.if-not-field_ok.true in
    sym (l.invariant.1 ∙ rw next.1.0 (fields-next _ l.from _ _ _ (next.1.1 ∙ l.invariant.0) ∙ rw (← c.link_at-l.ensures.is, z)))

pub loop-words-preserved : goal.loop-words-preserved
loop-words-preserved c =
    let l = c.loop-words in
    let next = c.in-Some.ensures.steps in
    let read = c.link_at-l.ensures.is in
    let z = sym c.field_ok.ensures ∙ c.if-not-field_ok.false in
    let ends = ap (λ (x : Link). x.slot.at + x.slot.width) read in
    (next.0 ∙ l.invariant.0, l.invariant.1 ∙ rw next.1.0 (fields-next _ l.from _ _ _ (next.1.1 ∙ l.invariant.0) ∙ rw (← read, z, ends)))

pub returns : goal.returns
returns c =
    let l = c.loop-words in
    let last = c.in-None.ensures.steps in
    sym (l.invariant.1 ∙ fields-all _ l.from _ _ (omega (arith, last.1.0, l.invariant.0)))

-- No links at all, or right fields, and then none that no order can fill.
use mathlib.Core.Path.{sym, ap, ◌∙◌}
use Prim.Native.Nat.{ℕ}
use native.Mathlib.Omega.{arith}
use borrow.Author.Tests.{eq-eqb}
use Rattle.lists.proofs.Runs.{length_part}
use Rattle.model_orders.specs.Object.{any_hopeless, slots_of}
use Rattle.layout.specs.Decode.{object_in, links_from}
use Rattle.layout.proofs.Facts.{own-head}
use Rattle.layout.proofs.FieldTests.{fields-slots}
use Rattle.sound_fields.proofs.Hopes.{closed-bare, closed-not, closed-rest}
use Rattle.sound_fields.proofs.closed_span_ok.Goals as goal

pub returns-then-s : goal.returns-then-s
returns-then-s c =
    let a = c.args in
    eq-eqb _ _ c.if-s.true ∙ sym (closed-bare a.kids a.store.now a.records.now a.s c.if-s.true)

pub returns-else-span_ok : goal.returns-else-span_ok
returns-else-span_ok c = c.if-span_ok.false ∙ closed-not _ _ (sym c.span_ok.ensures ∙ c.if-span_ok.false)

pub span_hopeless-requires : goal.span_hopeless-requires
span_hopeless-requires c =
    let pre = c.requires in
    let right = sym c.span_ok.ensures ∙ c.if-span_ok.true in
    (pre.0, own-head pre.1, pre.2, fields-slots _ _ _ _ right)

pub returns-then-span_ok : goal.returns-then-span_ok
returns-then-span_ok c =
    let right = sym c.span_ok.ensures ∙ c.if-span_ok.true in
    let a = c.args in
    let size = length_part a.s.from a.s.to a.store.now (omega (arith, c.requires)) in
    let slots = slots_of (links_from a.records.now a.s.first a.s.last) in
    closed-rest a.kids (object_in a.store.now a.records.now a.s) right (c.span_hopeless.ensures ∙ ap (λ (n : ℕ). any_hopeless n slots) (sym size))

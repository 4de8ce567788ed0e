-- A small object has none; of another the links that are left tell.
use Rattle.std.proofs.Common.{◌≡◌, ap, sym, ◌∙◌, arith}
use Rattle.model_orders.specs.Object.{Link, slot_ok, hopeless}
use Rattle.layout.specs.Words.{link_at}
use Rattle.sound_fields.proofs.Hopes.{small-hopes, hopeless-next, hopeless-none, slot-first, slots-rest}
use Rattle.sound_fields.proofs.hopeless.any_hopeless.Goals as goal

pub returns-then-n-capacity : goal.returns-then-n-capacity
returns-then-n-capacity c = sym (small-hopes _ (omega (arith, c.capacity.ensures)) _ c.requires)

pub field_hopeless-requires : goal.field_hopeless-requires
field_hopeless-requires c =
    let l = c.loop-words in
    let next = c.in-Some.ensures.steps in
    (c.link_at.ensures.held, ap (λ (x : Link). slot_ok x.slot) c.link_at.ensures.is ∙ slot-first _ _ (next.1.1 ∙ l.invariant.0) (rw next.1.0 at l.invariant.1))

pub returns-then-field_hopeless : goal.returns-then-field_hopeless
returns-then-field_hopeless c =
    let l = c.loop-words in
    let next = c.in-Some.ensures.steps in
    let looked : hopeless c.args.size (link_at c.in-Some.words.now 0).slot ≡ c.field_hopeless.result =
    ap (λ (x : Link). hopeless c.args.size x.slot) (sym c.link_at.ensures.is) ∙ sym c.field_hopeless.ensures in
    let z = looked ∙ c.if-field_hopeless.true in
    sym (l.invariant.2 ∙ rw next.1.0 (hopeless-next _ _ (next.1.1 ∙ l.invariant.0) _ ∙ rw z))

pub loop-words-preserved : goal.loop-words-preserved
loop-words-preserved c =
    let l = c.loop-words in
    let next = c.in-Some.ensures.steps in
    let looked : hopeless c.args.size (link_at c.in-Some.words.now 0).slot ≡ c.field_hopeless.result =
    ap (λ (x : Link). hopeless c.args.size x.slot) (sym c.link_at.ensures.is) ∙ sym c.field_hopeless.ensures in
    let z = looked ∙ c.if-field_hopeless.false in
    let whole = next.1.1 ∙ l.invariant.0 in
    (next.0 ∙ l.invariant.0, slots-rest _ _ whole (rw next.1.0 at l.invariant.1), l.invariant.2 ∙ rw next.1.0 (hopeless-next _ _ whole _ ∙ rw z))

pub returns : goal.returns
returns c =
    let l = c.loop-words in
    sym (l.invariant.2 ∙ hopeless-none _ (omega (arith, c.in-None.ensures.steps.1.0, l.invariant.0)) _)

-- Each refusal is a test that fails; past them all, the field's bytes decide.
use borrow.Author.Tests.{lt-leb, le-ltb}
use mathlib.Core.Path.{sym, ◌∙◌}
use native.Mathlib.Omega.{arith}
use Rattle.lists.proofs.Holds.{holds_not}
use Rattle.model_orders.proofs.Slots.{slot-wide, width-most}
use Rattle.layout.specs.Fields.{field_tests}
use Rattle.layout.specs.Links.{link_in}
use Rattle.layout.proofs.FieldTests.{field-bytes}
use Rattle.sound_object.proofs.Ends.{width-least}
use Rattle.sound_object.proofs.field_ok.Goals as goal

pub returns-then-l-from : goal.returns-then-l-from
unfolding field_tests
returns-then-l-from c = sym (holds_not _ 0 (lt-leb _ _ c.if-l-from.true))

pub returns-then-not-slot_ok : goal.returns-then-not-slot_ok
unfolding field_tests
returns-then-not-slot_ok c = sym (holds_not _ 1 (sym c.slot_ok.ensures ∙ c.if-not-slot_ok.true))

pub returns-then-bytes-end : goal.returns-then-bytes-end
unfolding field_tests
returns-then-bytes-end c = sym (holds_not _ 2 (lt-leb _ _ c.if-bytes-end.true))

pub returns-then-kids-l : goal.returns-then-kids-l
unfolding field_tests
returns-then-kids-l c = sym (holds_not _ 3 (le-ltb _ _ c.if-kids-l.true))

pub field_zero-requires : goal.field_zero-requires
field_zero-requires c =
    let right = sym c.slot_ok.ensures ∙ c.if-not-slot_ok.false in
    let l = c.args.l in
    let wide = slot-wide (link_in l).slot right in
    (omega (arith, width-least l.width wide), omega (arith, width-most l.width wide), c.if-bytes-end.false)

pub returns : goal.returns
returns c =
    let right = sym c.slot_ok.ensures ∙ c.if-not-slot_ok.false in
    c.field_zero.ensures
    ∙ field-bytes _ _ _ _ c.if-l-from.false right c.if-bytes-end.false c.if-kids-l.false

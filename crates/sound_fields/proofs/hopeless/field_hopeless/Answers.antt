-- The test is that of the definition, by a sum.
use mathlib.Core.Path.{◌∙◌, ap}
use Prim.Native.Nat.{ℕ, ◌+◌}
use native.Mathlib.Omega.{arith}
use lib.Dec.{leb}
use Rattle.big_endian.proofs.Laws.{capacity-rises}
use Rattle.model_orders.specs.Object.{widest}
use Rattle.model_orders.proofs.Slots.{width-most, slot-wide}
use Rattle.layout.specs.Links.{link_in}
use Rattle.sound_fields.proofs.Hopes.{sum-hopeless}
use Rattle.sound_fields.proofs.hopeless.field_hopeless.Goals as goal

pub capacity-requires : goal.capacity-requires
capacity-requires c = let l = c.args.l in omega (arith, width-most l.width (slot-wide (link_in l).slot c.requires.1))

pub overflow_add-result : goal.overflow_add-result
overflow_add-result c =
    let l = c.args.l in
    omega (arith, c.capacity.ensures, capacity-rises l.width widest (width-most l.width (slot-wide (link_in l).slot c.requires.1)))

pub returns : goal.returns
returns c =
    let a = c.args in
    ap (λ (k : ℕ). leb (k + a.l.inner) a.n) c.capacity.ensures ∙ sum-hopeless a.n (link_in a.l).slot

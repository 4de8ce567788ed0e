-- The end of the last area.
use mathlib.Core.Path.{ap, ◌∙◌}
use Prim.Native.Nat.{ℕ}
use Rattle.work.specs.Areas.{work_need}
use Rattle.work.specs.declared.Areas.{Areas}
use Rattle.work.proofs.need.Goals as goal

pub returns : goal.returns
returns c =
    let args = c.args in
    ap (λ (a : Areas). a.end) c.with_copies-a.ensures ∙ ap (λ (k : ℕ). work_need args.objects args.links k) c.at_most-allowed.ensures.1

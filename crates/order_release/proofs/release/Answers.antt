-- `release` meets its contract: one link less is left; the cast makes 1 of true and 0 of false.
use mathlib.Core.Path.{◌∙◌}
use native.Mathlib.Omega.{arith}
use Rattle.order_release.proofs.Releasing.{counted, release-some, release-few}
use Rattle.order_release.proofs.release.Goals as goal

pub returns : goal.returns
returns c =
    let some = c.if-v-eq0.false in
    let last = c.from.ensures ∙ counted _ in
    (omega arith, release-few c.requires some last, release-some c.requires some last)

-- `copy_links` meets its contract: the first i words of the links stand, and no other has changed.
use mathlib.Core.Path.{ap}
use Rattle.layout.specs.declared.state.State.{State}
use Rattle.pack_copy.proofs.Copying.{links-next}
use Rattle.pack_copy.proofs.copy_links.Goals as goal

pub loop-i-preserved : goal.loop-i-preserved
loop-i-preserved c =
    let pre = c.requires in
    links-next pre c.loop-i-test.true (rw (ap (λ (x : State). x.objects) pre.read.is) at c.pair.ensures) c.loop-i.invariant

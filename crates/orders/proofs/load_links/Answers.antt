-- `load_links` meets its contract: the words passed stand in the memory, two in one.
use native.Mathlib.Omega.{arith}
use Rattle.orders.proofs.Loading.{loading-all, packed-length, packed-next}
use Rattle.orders.proofs.load_links.Goals as goal

pub bounds-work-at : goal.bounds-work-at
bounds-work-at c = omega (arith, packed-length c.args.words.now)

pub loop-i-preserved : goal.loop-i-preserved
loop-i-preserved c =
    packed-next c.args.words.now c.loop-i.invariant c.requires c.loop-i-test.true (rw (c.from.ensures, c.from-in-loop-i.ensures))

pub returns : goal.returns
returns c = loading-all c.loop-i.invariant (omega (arith, packed-length c.args.words.now))

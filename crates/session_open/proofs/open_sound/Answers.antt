-- Two ways: as many objects are open as may be, or three words are stored.
use mathlib.Core.Path.{refl}
use native.Mathlib.Omega.{arith}
use Rattle.steps.proofs.Held.{held}
use Rattle.steps.proofs.Works.{open_full, open_done}
use Rattle.session_open.proofs.open_sound.Goals as goal

pub tally_of-t-requires : goal.tally_of-t-requires
tally_of-t-requires c =
    let b = c.read-s.ensures.bounds in
    (b.apart, b.inside, b.most, b.link_apart, b.link_inside, b.few_links)

pub shape_of-records-then-d-ge-MOST_OPEN : goal.shape_of-records-then-d-ge-MOST_OPEN
shape_of-records-then-d-ge-MOST_OPEN c = refl

pub returns-then-d-ge-MOST_OPEN : goal.returns-then-d-ge-MOST_OPEN
returns-then-d-ge-MOST_OPEN c =
    rw c.with.ensures (open_full (held c.read-s.ensures c.tally_of-t.ensures) c.if-d-ge-MOST_OPEN.true)

pub open-requires : goal.open-requires
open-requires c =
    let h = held c.read-s.ensures c.tally_of-t.ensures in
    omega (arith, c.if-d-ge-MOST_OPEN.false)

pub returns : goal.returns
returns c =
    rw (c.«open».ensures, c.set_word-3.ensures, c.set_word-2.ensures, c.set_word.ensures) (open_done (held c.read-s.ensures c.tally_of-t.ensures) c.if-d-ge-MOST_OPEN.false)

-- `pack_sound` meets its contract: four refusals in their order, or the graph is packed and the work memory cleared.
use native.Mathlib.Omega.{arith}
use Rattle.steps.proofs.Held.{held}
use Rattle.steps.proofs.Packs.{pack-many, pack-little, pack-open, pack-unknown}
use Rattle.pack.proofs.Clears.{packable, pack-done}
use Rattle.pack.proofs.pack_sound.Goals as goal

pub read-s-requires : goal.read-s-requires
read-s-requires c = c.requires

pub tally_of-t-requires : goal.tally_of-t-requires
tally_of-t-requires c =
    let b = c.read-s.ensures.bounds in
    (b.apart, b.inside, b.most, b.link_apart, b.link_inside, b.few_links)

pub returns-then-copies-gt-MOST_COPIES : goal.returns-then-copies-gt-MOST_COPIES
returns-then-copies-gt-MOST_COPIES c =
    let h = held c.read-s.ensures c.tally_of-t.ensures in
    rw c.with.ensures (pack-many h _ _ _ _ c.none.ensures c.if-copies-gt-MOST_COPIES.true)

pub returns-then-work-a : goal.returns-then-work-a
returns-then-work-a c =
    let h = held c.read-s.ensures c.tally_of-t.ensures in
    rw c.with-then-work-a.ensures (pack-little h _ _ _ _ c.if-copies-gt-MOST_COPIES.false c.none-then-work-a.ensures (rw c.with_copies-a.ensures at c.if-work-a.true))

pub returns-then-t-gt0 : goal.returns-then-t-gt0
returns-then-t-gt0 c =
    let h = held c.read-s.ensures c.tally_of-t.ensures in
    rw c.with-then-t-gt0.ensures (pack-open h _ _ _ _ c.if-copies-gt-MOST_COPIES.false (rw c.with_copies-a.ensures at c.if-work-a.false) (omega (arith, c.if-t-gt0.true)))

pub returns-then-t-id : goal.returns-then-t-id
returns-then-t-id c =
    let h = held c.read-s.ensures c.tally_of-t.ensures in
    rw c.with-then-t-id.ensures (pack-unknown h _ _ _ _ c.if-copies-gt-MOST_COPIES.false (rw c.with_copies-a.ensures at c.if-work-a.false) c.if-t-gt0.false (omega (arith, c.if-t-id.true)))

pub pack_graph-answer-requires : goal.pack_graph-answer-requires
pack_graph-answer-requires c =
    let h = held c.read-s.ensures c.tally_of-t.ensures in
    packable h c.if-copies-gt-MOST_COPIES.false c.with_copies-a.ensures c.if-work-a.false c.if-t-id.false

pub returns : goal.returns
returns c =
    let h = held c.read-s.ensures c.tally_of-t.ensures in
    pack-done h c.if-copies-gt-MOST_COPIES.false c.with_copies-a.ensures c.if-work-a.false c.if-t-gt0.false c.if-t-id.false c.pack_graph-answer.ensures c.clear.ensures

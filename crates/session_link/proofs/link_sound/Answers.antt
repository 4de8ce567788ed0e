-- Six ways: five refusals in their order, or a link is appended.
use mathlib.Core.Path.{refl, ap, ◌∙◌}
use mathlib.Core.Bool.{not}
use borrow.Author.Tests.{not-false}
use Rattle.layout.proofs.Facts.{words-read}
use Rattle.steps.proofs.Held.{held, some-open, held_bytes, room-counted, link_apart}
use Rattle.steps.proofs.Works.{link-none, link-field, link-child, link-full, link-room, link-done}
use Rattle.session_link.proofs.Made.{made-judged, made-narrow, made-left}
use Rattle.session_link.proofs.link_sound.Goals as goal

pub tally_of-t-requires : goal.tally_of-t-requires
tally_of-t-requires c =
    let b = c.read-s.ensures.bounds in
    (b.apart, b.inside, b.most, b.link_apart, b.link_inside, b.few_links)

pub shape_of-records-then-s-eq0 : goal.shape_of-records-then-s-eq0
shape_of-records-then-s-eq0 c = refl

pub returns-then-s-eq0 : goal.returns-then-s-eq0
returns-then-s-eq0 c =
    rw c.with.ensures (link-none (held c.read-s.ensures c.tally_of-t.ensures) _ _ _ c.if-s-eq0.true)

pub made_link-l-requires : goal.made_link-l-requires
made_link-l-requires c =
    let h = held c.read-s.ensures c.tally_of-t.ensures in
    (words-read h.counts, some-open c.if-s-eq0.false)

pub shape_of-records-then-not-slot_ok : goal.shape_of-records-then-not-slot_ok
shape_of-records-then-not-slot_ok c = refl

pub returns-then-not-slot_ok : goal.returns-then-not-slot_ok
returns-then-not-slot_ok c =
    let h = held c.read-s.ensures c.tally_of-t.ensures in
    rw c.with-then-not-slot_ok.ensures (link-field h _ _ _ c.if-s-eq0.false (rw (made-judged c.made_link-l.ensures c.slot_ok.ensures) at (ap not c.if-not-slot_ok.true)))

pub shape_of-records-then-t-l : goal.shape_of-records-then-t-l
shape_of-records-then-t-l c = refl

pub returns-then-t-l : goal.returns-then-t-l
returns-then-t-l c =
    let h = held c.read-s.ensures c.tally_of-t.ensures in
    let right = rw (made-judged c.made_link-l.ensures c.slot_ok.ensures) at (ap not c.if-not-slot_ok.false) in
    rw c.with-then-t-l.ensures (link-child h _ _ _ c.if-s-eq0.false right (rw c.made_link-l.ensures.child_is at c.if-t-l.true))

pub shape_of-records-then-s-t : goal.shape_of-records-then-s-t
shape_of-records-then-s-t c = refl

pub returns-then-s-t : goal.returns-then-s-t
returns-then-s-t c =
    let h = held c.read-s.ensures c.tally_of-t.ensures in
    let right = rw (made-judged c.made_link-l.ensures c.slot_ok.ensures) at (ap not c.if-not-slot_ok.false) in
    rw c.with-then-s-t.ensures (link-full h _ _ _ c.if-s-eq0.false right (rw c.made_link-l.ensures.child_is at c.if-t-l.false) c.if-s-t.true)

pub overflow_sub-store : goal.overflow_sub-store
overflow_sub-store c =
    let h = held c.read-s.ensures c.tally_of-t.ensures in
    held_bytes h

pub shape_of-records-then-store-t : goal.shape_of-records-then-store-t
shape_of-records-then-store-t c = refl

pub returns-then-store-t : goal.returns-then-store-t
returns-then-store-t c =
    let h = held c.read-s.ensures c.tally_of-t.ensures in
    let right = rw (made-judged c.made_link-l.ensures c.slot_ok.ensures) at (ap not c.if-not-slot_ok.false) in
    rw c.with-then-store-t.ensures (link-room h _ _ _ c.if-s-eq0.false right (rw c.made_link-l.ensures.child_is at c.if-t-l.false) c.if-s-t.false (rw c.made_link-l.ensures.width_is at c.if-store-t.true))

pub append_link-requires : goal.append_link-requires
append_link-requires c =
    let h = held c.read-s.ensures c.tally_of-t.ensures in
    let right = rw (made-judged c.made_link-l.ensures c.slot_ok.ensures) at (ap not c.if-not-slot_ok.false) in
    (words-read h.counts, link_apart h c.if-s-t.false, c.made_link-l.ensures.held, made-narrow c.made_link-l.ensures (not-false _ right))

pub grow-requires : goal.grow-requires
grow-requires c =
    let h = held c.read-s.ensures c.tally_of-t.ensures in
    let r = room-counted h c.if-store-t.false in
    (r.0, r.2)

pub returns : goal.returns
returns c =
    let h = held c.read-s.ensures c.tally_of-t.ensures in
    let right = rw (made-judged c.made_link-l.ensures c.slot_ok.ensures) at (ap not c.if-not-slot_ok.false) in
    let m = c.made_link-l.ensures in
    rw (c.grow.ensures, c.append_link.ensures)
    (made-left m _ _ ∙ link-done h _ _ _ c.if-s-eq0.false right (rw m.child_is at c.if-t-l.false) c.if-s-t.false (rw m.width_is at c.if-store-t.false))

-- Three ways: nothing is open, there is no room, or the bytes are copied.
use mathlib.Core.Path.{refl}
use Rattle.steps.proofs.Held.{held, held_bytes, room-behind, room-counted}
use Rattle.steps.proofs.Works.{put-none, put_full, put-done}
use Rattle.session_put.proofs.put_sound.Goals as goal

pub tally_of-t-requires : goal.tally_of-t-requires
tally_of-t-requires c =
    let b = c.read-s.ensures.bounds in
    (b.apart, b.inside, b.most, b.link_apart, b.link_inside, b.few_links)

pub shape_of-store-then-d-eq0 : goal.shape_of-store-then-d-eq0
shape_of-store-then-d-eq0 c = refl

pub shape_of-records-then-d-eq0 : goal.shape_of-records-then-d-eq0
shape_of-records-then-d-eq0 c = refl

pub returns-then-d-eq0 : goal.returns-then-d-eq0
returns-then-d-eq0 c =
    rw c.with.ensures (put-none (held c.read-s.ensures c.tally_of-t.ensures) _ c.if-d-eq0.true)

pub overflow_sub-store : goal.overflow_sub-store
overflow_sub-store c =
    held_bytes (held c.read-s.ensures c.tally_of-t.ensures)

pub shape_of-store-then-store-t : goal.shape_of-store-then-store-t
shape_of-store-then-store-t c = refl

pub shape_of-records-then-store-t : goal.shape_of-records-then-store-t
shape_of-records-then-store-t c = refl

pub returns-then-store-t : goal.returns-then-store-t
returns-then-store-t c =
    rw c.with-then-store-t.ensures (put_full (held c.read-s.ensures c.tally_of-t.ensures) _ c.if-d-eq0.false c.if-store-t.true)

pub copy-requires : goal.copy-requires
copy-requires c =
    let h = held c.read-s.ensures c.tally_of-t.ensures in
    room-behind h c.if-store-t.false

pub grow-requires : goal.grow-requires
grow-requires c =
    let h = held c.read-s.ensures c.tally_of-t.ensures in
    let r = room-counted h c.if-store-t.false in
    (r.0, r.1)

pub returns : goal.returns
returns c =
    let h = held c.read-s.ensures c.tally_of-t.ensures in
    rw (c.grow.ensures, c.copy.ensures, c.set_word.ensures) (put-done h _ c.if-d-eq0.false c.if-store-t.false)

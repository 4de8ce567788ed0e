-- The look by the slots, the close, and its object added.
use native.Mathlib.Omega.{arith}
use Rattle.layout.proofs.Facts.{words-read}
use Rattle.steps.proofs.Held.{some-open}
use Rattle.session_index.proofs.Laid.{laid, hash-inner}
use Rattle.session_slots.proofs.Keeps.{slotted-nothing, slotted-close, more-new}
use Rattle.session_slots.proofs.close_slotted.Goals as goal

pub returns-then-s-eq0 : goal.returns-then-s-eq0
returns-then-s-eq0 c = slotted-nothing c.requires (omega (arith, c.read-s.ensures.depth_is)) c.close_found.ensures

pub innermost-own-requires : goal.innermost-own-requires
innermost-own-requires c = (words-read c.read-s.ensures, some-open c.if-s-eq0.false)

pub hash_at-h-requires : goal.hash_at-h-requires
hash_at-h-requires c = laid c.read-s.ensures c.innermost-own.ensures.within

pub find_slotted-id-requires : goal.find_slotted-id-requires
find_slotted-id-requires c =
    let r = c.read-s.ensures in
    let k = c.innermost-own.ensures in
    record { read = r; lies = k; slotted = c.requires.slotted; hash_is = hash-inner r k c.hash_at-h.ensures }

pub add_new-requires : goal.add_new-requires
add_new-requires c = more-new c.requires c.close_found-a.ensures c.read-s.ensures

pub returns : goal.returns
returns c =
    let r = c.read-s.ensures in
    let k = c.innermost-own.ensures in
    slotted-close c.requires (omega (arith, r.depth_is, k.some)) c.close_found-a.ensures r.closed_is (hash-inner r k c.hash_at-h.ensures) c.add_new.ensures

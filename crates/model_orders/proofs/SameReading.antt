-- `same_slot` decides equality of slots, and `same_reading` that of readings; objects that are the same at closing are equal.
use mathlib.Core.Path.{◌≡◌, refl, ap}
use mathlib.Core.Bool.{true}
use lib.Dec.{eqb}
use borrow.Author.Tests.{eq-eqb, eqb-true}
use Rattle.lists.specs.Lists.{same_list}
use Rattle.lists.proofs.Same.{and_left, and_right, same-equal, same_self}
use Rattle.model_orders.specs.Object.{Slot, Link, Object, same_slot, same_link, same_object}
use Rattle.model_orders.specs.Reading.{Reading, bytes, field, same_reading}

slot-equal : (s t : Slot) → same_slot s t ≡ true → s ≡ t
slot-equal s t e =
    let at : s.at ≡ t.at = eqb-true _ _ (and_left (eqb s.at t.at) _ e) in
    let rest = and_right (eqb s.at t.at) _ e in
    let width : s.width ≡ t.width = eqb-true _ _ (and_left (eqb s.width t.width) _ rest) in
    let inner : s.inner ≡ t.inner = eqb-true _ _ (and_right (eqb s.width t.width) _ rest) in
    λ i. record { at = at i; width = width i; inner = inner i }

slot-self : (s : Slot) → same_slot s s ≡ true
slot-self s = rw (eq-eqb s.at s.at refl, eq-eqb s.width s.width refl, eq-eqb s.inner s.inner refl)

link-equal : (l m : Link) → same_link l m ≡ true → l ≡ m
link-equal l m e =
    let slot = slot-equal l.slot m.slot (and_left (same_slot l.slot m.slot) _ e) in
    let child : l.child ≡ m.child = eqb-true _ _ (and_right (same_slot l.slot m.slot) _ e) in
    λ i. record { slot = slot i; child = child i }

pub object-equal : (o p : Object) → same_object o p ≡ true → o ≡ p
object-equal o p e =
    let bytes = same-equal eqb eqb-true o.bytes p.bytes (and_left (same_list eqb o.bytes p.bytes) _ e) in
    let links = same-equal same_link link-equal o.links p.links (and_right (same_list eqb o.bytes p.bytes) _ e) in
    λ i. record { bytes = bytes i; links = links i }

pub reading-equal : (r s : Reading) → same_reading r s ≡ true → r ≡ s
unfolding same_reading
reading-equal (bytes a) (bytes b) e = ap bytes (same-equal eqb eqb-true a b e)
reading-equal (bytes a) (field s c r) e = cc
reading-equal (field s c r) (bytes b) e = cc
reading-equal (field s c r) (field u d q) e =
    let b = and_right (same_slot s u) _ e in
    let e1 : s ≡ u = slot-equal s u (and_left (same_slot s u) _ e) in
    let e2 : c ≡ d = reading-equal c d (and_left (same_reading c d) _ b) in
    let e3 : r ≡ q = reading-equal r q (and_right (same_reading c d) _ b) in
    cc

pub reading-self : (r : Reading) → same_reading r r ≡ true
unfolding same_reading
reading-self (bytes a) = same_self eqb (λ x. eq-eqb x x refl) a
reading-self (field s c r) = rw (slot-self s, reading-self c, reading-self r)

-- One field's tests, and the fields that are left to look at.
use mathlib.Core.Path.{◌≡◌, refl}
use Prim.Native.Nat.{ℕ, ◌+◌, ◌≤◌, ◌<◌}
use mathlib.Core.List.{List, [], ◌∷◌, ◌++◌}
use mathlib.Core.Bool.{true, ◌&&◌, and-true}
use borrow.Author.Tests.{le-leb, lt-ltb}
use lib.ListN.{length}
use Rattle.lists.specs.Lists.{part, holds, zeros}
use Rattle.lists.proofs.Holds.{holds_at}
use Rattle.lists.proofs.Same.{and_left, and_right}
use Rattle.model_orders.specs.Object.{Link, slot_ok, slots_of}
use Rattle.layout.specs.Words.{link_words, links_of, link_at}
use Rattle.layout.specs.Fields.{field_tests, fields_ok, slots_ok}
use Rattle.layout.proofs.Links.{links_of-next, links_of-short}

-- a field that passes the other tests is right exactly if its bytes are zero
pub field-bytes : (kids from : ℕ) (bs : List ℕ) (l : Link) → from ≤ l.slot.at → slot_ok l.slot ≡ true → l.slot.at + l.slot.width ≤ length bs → l.child < kids
    → zeros (part l.slot.at (l.slot.at + l.slot.width) bs) ≡ holds (field_tests kids from bs l)
unfolding field_tests holds
field-bytes kids from bs l after right inside known = rw (le-leb _ _ after, right, le-leb _ _ inside, lt-ltb _ _ known, and-true)

-- right fields have right slots
pub fields-slots : (kids from : ℕ) (bs : List ℕ) (ls : List Link) → fields_ok kids from bs ls ≡ true → slots_ok (slots_of ls) ≡ true
unfolding fields_ok slots_ok field_tests
fields-slots kids from bs [] h = refl
fields-slots kids from bs (l ∷ ls) h =
    let rest = fields_ok kids (l.slot.at + l.slot.width) bs ls in
    let here = holds_at (field_tests kids from bs l) (and_left (holds (field_tests kids from bs l)) rest h) 1 in
    rw here (fields-slots kids (l.slot.at + l.slot.width) bs ls (and_right (holds (field_tests kids from bs l)) rest h))

module _ (kids from : ℕ) (bs ws : List ℕ) where
  pub fields-next : (rest : List ℕ) → length ws ≡ link_words
      → fields_ok kids from bs (links_of (ws ++ rest))
      ≡ (holds (field_tests kids from bs (link_at ws 0)) && fields_ok kids ((link_at ws 0).slot.at + (link_at ws 0).slot.width) bs (links_of rest))
  unfolding fields_ok
  fields-next rest h = rw (links_of-next ws rest h)

  pub fields-all : length ws < link_words → fields_ok kids from bs (links_of ws) ≡ true
  unfolding fields_ok
  fields-all h = rw (links_of-short ws h)

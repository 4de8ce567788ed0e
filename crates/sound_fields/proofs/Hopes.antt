-- The look for a field that no order can fill: an object of right slots that is small has none, and else the links are looked at one by one.
use mathlib.Core.Path.{◌≡◌, refl, sym, ◌∙◌}
use Prim.Native.Nat.{ℕ, ◌+◌, ◌-◌, ◌*◌, ◌≤◌, ◌<◌}
use mathlib.Core.List.{List, [], ◌∷◌, ◌++◌}
use mathlib.Core.Bool.{Bool, true, false, not, ◌&&◌, ◌||◌}
use native.Mathlib.Omega.{arith}
use native.Mathlib.Decide.{dec_le}
use borrow.Author.Tests.{le-leb, lt-leb}
use lib.ListN.{length}
use lib.Dec.{leb}
use Rattle.lists.proofs.Same.{and_left, and_right}
use Rattle.big_endian.specs.BigEndian.{capacity}
use Rattle.big_endian.proofs.Laws.{capacity-rises}
use Rattle.model_orders.specs.Object.{Slot, Object, narrowest, slot_ok, hopeless, any_hopeless, slots_of, hopeless_object}
use Rattle.model_orders.proofs.Slots.{slot-wide}
use Rattle.layout.specs.Words.{link_words, links_of, link_at}
use Rattle.layout.specs.Fields.{fields_ok, object_ok, closed_ok, slots_ok}
use Rattle.layout.specs.Decode.{object_in}
use Rattle.layout.specs.declared.span.Span.{Span}
use Rattle.layout.proofs.Links.{links_of-next, links_of-short}
use Rattle.sound_object.proofs.Ends.{width-least}

-- the test as the code makes it, by a sum: a width holds one number at the least
pub sum-hopeless : (n : ℕ) (s : Slot) → leb (capacity s.width + s.inner) n ≡ hopeless n s
sum-hopeless n s = go (dec_le (capacity s.width + s.inner) n)
  where
    some : capacity 0 ≤ capacity s.width
    some = capacity-rises 0 s.width (omega arith)

    go : Dec (capacity s.width + s.inner ≤ n) → leb (capacity s.width + s.inner) n ≡ hopeless n s
    go (yes h) = le-leb _ _ h ∙ sym (le-leb (capacity s.width) (n - s.inner) (omega arith))
    go (no h) = lt-leb (capacity s.width + s.inner) n (omega arith) ∙ sym (lt-leb (capacity s.width) (n - s.inner) (omega (arith, some)))

-- an object smaller than what the narrowest field holds has none
pub small-hopes : (n : ℕ) → n < capacity narrowest → (ss : List Slot) → slots_ok ss ≡ true → any_hopeless n ss ≡ false
unfolding slots_ok any_hopeless
small-hopes n h [] k = refl
small-hopes n h (s ∷ ss) k =
    let least = width-least s.width (slot-wide s (and_left (slot_ok s) (slots_ok ss) k)) in
    let here : hopeless n s ≡ false = lt-leb (capacity s.width) (n - s.inner) (omega (arith, capacity-rises narrowest s.width least)) in
    rw here (small-hopes n h ss (and_right (slot_ok s) (slots_ok ss) k))

-- ---- by the words of the first link and those that follow

module _ (ws : List ℕ) where
  module _ (rest : List ℕ) (h : length ws ≡ link_words) where
    pub hopeless-next : (n : ℕ) → any_hopeless n (slots_of (links_of (ws ++ rest))) ≡ (hopeless n (link_at ws 0).slot || any_hopeless n (slots_of (links_of rest)))
    unfolding any_hopeless
    hopeless-next n = rw (links_of-next ws rest h)

    module _ (k : slots_ok (slots_of (links_of (ws ++ rest))) ≡ true) where
      both : (slot_ok (link_at ws 0).slot && slots_ok (slots_of (links_of rest))) ≡ true
      unfolding slots_ok
      both = rw (links_of-next ws rest h) at k

      pub slot-first : slot_ok (link_at ws 0).slot ≡ true
      slot-first = and_left _ (slots_ok (slots_of (links_of rest))) both

      pub slots-rest : slots_ok (slots_of (links_of rest)) ≡ true
      slots-rest = and_right (slot_ok (link_at ws 0).slot) _ both

  pub hopeless-none : length ws < link_words → (n : ℕ) → any_hopeless n (slots_of (links_of ws)) ≡ false
  unfolding any_hopeless
  hopeless-none h n = rw (links_of-short ws h)

-- ---- a closed object

-- without links
pub closed-bare : (kids : ℕ) (b w : List ℕ) (s : Span) → s.first ≡ s.last → closed_ok kids (object_in b w s) ≡ true
unfolding fields_ok any_hopeless links_of
closed-bare kids b w s h = let none : s.last * link_words - s.first * link_words ≡ 0 = omega (arith, h) in rw none

module _ (kids : ℕ) (o : Object) where
  pub closed-not : object_ok kids o ≡ false → false ≡ closed_ok kids o
  closed-not h = rw h

  pub closed-rest : {b : Bool} → object_ok kids o ≡ true → b ≡ hopeless_object o → not b ≡ closed_ok kids o
  closed-rest h e = rw (h, e)

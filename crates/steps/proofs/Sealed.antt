-- Close of a new object: the innermost open object becomes the last closed one.
use mathlib.Core.Path.{◌≡◌, refl, sym, ap, subst₂, ◌∙◌}
use Prim.Native.Nat.{ℕ, suc, ◌+◌, ◌-◌, ◌*◌, ◌≤◌, ◌<◌}
use mathlib.Core.List.{List, [], ◌∷◌, ◌++◌}
use mathlib.Core.Bool.{true, false}
use native.Mathlib.Decide.{dec_le}
use native.Mathlib.Omega.{arith}
use lib.ListN.{length, get_or, length-set}
use lib.Seq.{lt-length-set, get_or-set_same, get_or-set_other}
use Rattle.lists.specs.Lists.{part, over}
use Rattle.lists.proofs.Frames.{part_same, length_moved, moved_before, moved-after, part_moved, length-cleared, cleared-before, cleared-in, cleared-after}
use Rattle.answer.specs.Tally.{added}
use Rattle.model_orders.specs.Object.{Object, hopeless_object}
use Rattle.model.specs.Session.{Session, innermost, outer}
use Rattle.layout.specs.Words.{object_limit_at, closed_count_at, open_depth_at, object_limit, closed_count, open_depth, ends_at, link_ends_at, begins_at, link_begins_at, links_at, link_words, links_of, top, link_top, low, link_low}
use Rattle.layout.specs.Fields.{closed_ok}
use Rattle.layout.specs.Decode.{links_from, decode}
use Rattle.layout.specs.Known.{Sound}
use Rattle.layout.proofs.Links.{link-words}
use Rattle.steps.specs.Steps.{tally_in, under, link_under, innermost_in, new_low, new_link_low, sealed_bytes, sealed_words}
use Rattle.steps.proofs.Tallies.{tally-same}
use Rattle.steps.proofs.Innermost.{Edges, innermost-decode, outer-decode, inner-is, inner-right, inner_edges}
use Rattle.steps.proofs.Frames.{ObjectsKept, links-at}
use Rattle.steps.proofs.Sides.{Leaves, kept-opens, kept-closed, more-closed, sides-leave}

-- word j is none that the step writes
record Untouched (w : List ℕ) (j : ℕ) : Type 0 where
  count : j ≡ closed_count_at → ⊥
  depth : j ≡ open_depth_at → ⊥
  begin : j ≡ begins_at + closed_count w + 1 → ⊥
  link_begin : j ≡ link_begins_at w + closed_count w + 1 → ⊥
  link : links_at w + new_link_low w * link_words ≤ j → links_at w + link_low w * link_words ≤ j

module _ {b w : List ℕ} (s : Sound b w) (h : 0 < open_depth w) (some : under w < top w) (free : closed_count w < object_limit w) where
  edges : Edges w
  edges = inner_edges b w h s

  -- ---- bytes: moved up, then zeros up to where they are

  abbrev moved : List ℕ
  moved = over (new_low w) (part (under w) (top w) b) b

  -- where they come to end
  to_low : new_low w + (top w - under w) ≡ low w
  to_low = omega arith

  up : new_low w + (top w - under w) ≤ length b
  up = omega arith

  length_up : length moved ≡ length b
  length_up = length_moved (under w) (top w) (new_low w) b (omega arith) up

  zeros-fit : under w + (new_low w - under w) ≤ length moved
  zeros-fit = omega (arith, length_up)

  bytes-kept : length (sealed_bytes b w) ≡ length b
  bytes-kept = length-cleared (under w) (new_low w - under w) moved zeros-fit ∙ length_up

  above : (i : ℕ) → new_low w ≤ i → get_or (sealed_bytes b w) i 0 ≡ get_or moved i 0
  above i a = cleared-after (under w) (new_low w - under w) moved zeros-fit i (omega arith)

  sealed-bytes : part (new_low w) (low w) (sealed_bytes b w) ≡ (innermost_in b w).bytes
  sealed-bytes =
      part_same (new_low w) (low w) moved (sealed_bytes b w) (omega (arith, length_up)) (bytes-kept ∙ sym length_up) (λ i a c. above i a)
      ∙ rw to_low at (part_moved (under w) (top w) (new_low w) b (omega arith) up)
      ∙ ap (λ (o : Object). o.bytes) (sym (inner-is b w h))

  -- ---- words: the links moved up, then both tables' entries and the counts

  abbrev from : ℕ
  from = links_at w + link_under w * link_words

  abbrev to : ℕ
  to = links_at w + link_top w * link_words

  abbrev place : ℕ
  place = links_at w + new_link_low w * link_words

  abbrev moved_words : List ℕ
  moved_words = over place (part from to w) w

  to-link_low : place + (to - from) ≡ links_at w + link_low w * link_words
  to-link_low = let e = edges in omega arith

  words_up : place + (to - from) ≤ length w
  words_up = omega (arith, to-link_low)

  length-words-up : length moved_words ≡ length w
  length-words-up = length_moved from to place w (omega arith) words_up

  words-kept : length (sealed_words w) ≡ length w
  words-kept = simp length-set length-words-up

  sets : (j : ℕ) → (j ≡ closed_count_at → ⊥) → (j ≡ open_depth_at → ⊥) → (j ≡ begins_at + closed_count w + 1 → ⊥) → (j ≡ link_begins_at w + closed_count w + 1 → ⊥)
      → get_or (sealed_words w) j 0 ≡ get_or moved_words j 0
  sets j e f g k = simp (get_or-set_other, e, f, g, k)

  others : (j : ℕ) → Untouched w j → get_or (sealed_words w) j 0 ≡ get_or w j 0
  others j u = sets j u.count u.depth u.begin u.link_begin ∙ go (dec_le place j)
    where
      go : Dec (place ≤ j) → get_or moved_words j 0 ≡ get_or w j 0
      go (yes k) = let m = u.link k in moved-after from to place w (omega arith) words_up j (omega (arith, to-link_low))
      go (no k) = moved_before from to place w (omega arith) words_up j (omega arith)

  begin : get_or (sealed_words w) (begins_at + closed_count w + 1) 0 ≡ new_low w
  begin =
      let n = length-words-up in
      let r : begins_at + closed_count w + 1 < length moved_words = omega arith in
      let x : begins_at + closed_count w + 1 ≡ closed_count_at → ⊥ = omega arith in
      let y : begins_at + closed_count w + 1 ≡ open_depth_at → ⊥ = omega arith in
      let z : begins_at + closed_count w + 1 ≡ link_begins_at w + closed_count w + 1 → ⊥ = omega arith in
      simp (get_or-set_other, get_or-set_same)

  link_begin : get_or (sealed_words w) (link_begins_at w + closed_count w + 1) 0 ≡ new_link_low w
  link_begin =
      let n = length-words-up in
      let r : link_begins_at w + closed_count w + 1 < length moved_words = omega arith in
      let x : link_begins_at w + closed_count w + 1 ≡ closed_count_at → ⊥ = omega arith in
      let y : link_begins_at w + closed_count w + 1 ≡ open_depth_at → ⊥ = omega arith in
      simp (get_or-set_other, get_or-set_same, lt-length-set)

  count : closed_count (sealed_words w) ≡ suc (closed_count w)
  count =
      let n = length-words-up in
      let r : closed_count_at < length moved_words = omega arith in
      let x : ◌≡◌ {A = ℕ} closed_count_at open_depth_at → ⊥ = omega arith in
      simp (get_or-set_other, get_or-set_same, lt-length-set) (omega arith)

  depth : open_depth (sealed_words w) ≡ open_depth w - 1
  depth =
      let n = length-words-up in
      let r : open_depth_at < length moved_words = omega arith in
      simp (get_or-set_same, lt-length-set)

  -- ---- both

  kept : ObjectsKept (open_depth w - 1) b w (sealed_bytes b w) (sealed_words w)
  kept =
      let e = edges in
      let f = to_low in
      record {
        known = omega arith;
        bytes = bytes-kept;
        words = words-kept;
        objects = others object_limit_at (omega arith);
        ends = record { at = λ i k. others (ends_at + i) (omega arith) };
        link_ends = record { at = λ i k. others (link_ends_at + i) (omega arith) };
        begins = record { at = λ i k. others (begins_at + i) (omega arith) };
        link_begins = record { at = λ i k. others (link_begins_at w + i) (omega arith) };
        front =
            λ i k. cleared-before (under w) (new_low w - under w) moved zeros-fit i k ∙ moved_before (under w) (top w) (new_low w) b (omega arith) up i (omega arith);
        back = λ i k. above i (omega arith) ∙ moved-after (under w) (top w) (new_low w) b (omega arith) up i (omega arith);
        link_front = λ i k m. others i (omega arith);
        link_back = λ i k. others i (omega arith);
      }

  sealed-links : links_from (sealed_words w) (new_link_low w) (link_low w) ≡ (innermost_in b w).links
  sealed-links =
      let n = length-words-up in
      links-at s kept (new_link_low w) (link_low w) s.link_inside
      ∙ ap links_of
      (part_same place (links_at w + link_low w * link_words) moved_words (sealed_words w) (omega arith) (words-kept ∙ sym length-words-up)
      (λ k x y. sets k (omega arith) (omega arith) (omega arith) (omega arith))
      ∙ rw to-link_low at (part_moved from to place w (omega arith) words_up)
      ∙ sym (link-words w (link_under w) (link_top w) (omega arith)))
      ∙ ap (λ (o : Object). o.links) (sym (inner-is b w h))

  -- the session with it closed
  abbrev closes : List Object → Object → Session
  closes os o = record { limits = (decode b w).limits; opens = os; closed = (decode b w).closed ++ (o ∷ []) }

  -- its fields are right, and an order can fill them
  closes-right : hopeless_object (innermost_in b w) ≡ false → closed_ok (closed_count w) (innermost_in b w) ≡ true
  closes-right hopes = rw (inner-right b w h s, hopes)

  pub seal-leaves : hopeless_object (innermost_in b w) ≡ false → Leaves b w (sealed_bytes b w) (sealed_words w) (added (tally_in b w)) (closes (outer (decode b w).opens) (innermost (decode b w).opens))
  unfolding decode
  seal-leaves hopes =
      let e = edges in
      let f = count in
      let closed =
      more-closed (innermost_in b w) (kept-closed s kept) begin (rw kept.objects link_begin) (omega arith) (omega arith) sealed-bytes sealed-links (closes-right hopes) in
      subst₂ (λ os o. Leaves b w (sealed_bytes b w) (sealed_words w) (added (tally_in b w)) (closes os o)) (sym (outer-decode b w)) (sym (innermost-decode b w h))
      (sides-leave s kept (kept-opens s kept (omega arith)) closed depth count (omega arith) (omega arith) (omega arith) (omega arith)
      (λ i a c. cleared-in (under w) (new_low w - under w) moved zeros-fit i a (omega arith))
      (added (tally_in b w)) (tally-same (omega arith) (omega arith) (omega arith) refl))

-- Put and link: the innermost open object grows.
use mathlib.Core.Path.{◌≡◌, refl, sym, ap, ap₂, subst, ◌∙◌}
use Prim.Native.Nat.{ℕ, suc, ◌+◌, ◌-◌, ◌*◌, ◌≤◌, ◌<◌}
use native.Mathlib.Nat.{le_refl}
use mathlib.Core.List.{List, [], ◌∷◌, ◌++◌}
use mathlib.Core.Bool.{true}
use native.Mathlib.Decide.{dec_le}
use native.Mathlib.Omega.{arith}
use lib.ListN.{length, get_or, set, replicate, length-set}
use lib.Seq.{lt-length-set, get_or-set_same, get_or-set_other}
use Rattle.lists.specs.Lists.{part, over}
use Rattle.lists.proofs.Runs.{length_part}
use Rattle.lists.proofs.Over.{length_over, over-before, over-after}
use Rattle.lists.proofs.Frames.{part_same, part_join, part-grown, part-zeros, zeros-in}
use Rattle.answer.specs.Tally.{grown}
use Rattle.answer.specs.declared.tally.Tally.{Tally}
use Rattle.model_orders.specs.Object.{Object, Link, slot_ok, with_bytes, new_link, with_link}
use Rattle.model.specs.Session.{with_opens, on_innermost}
use Rattle.layout.specs.Words.{closed_count, open_depth, ends_at, link_ends_at, links_at, link_words, link_limit, words_of, link_of_words, links_of, top, link_top, low, link_low}
use Rattle.layout.specs.Fields.{object_ok}
use Rattle.layout.specs.Decode.{links_from, decode}
use Rattle.layout.specs.Known.{Sound}
use Rattle.layout.proofs.Links.{links_of-words, links_of-append, link-words}
use Rattle.steps.specs.Steps.{tally_in, under, link_under, innermost_in, made_link, link_words_of}
use Rattle.steps.proofs.Fields.{ok-put, ok-link}
use Rattle.steps.proofs.Tallies.{tally-same}
use Rattle.steps.proofs.Innermost.{innermost-decode, outer-decode, inner-is, inner-size, inner-right, inner_edges}
use Rattle.steps.proofs.Frames.{ObjectsKept, kept-others, links-at, links-kept}
use Rattle.steps.proofs.Sides.{Leaves, more-opens, kept-opens, kept-closed, sides-leave}

-- the innermost open object after f, which ends at byte t, its links at number l
record Grows (f : Object → Object) (t l : ℕ) (b w b' w' : List ℕ) : Type 0 where
  kept : ObjectsKept (open_depth w - 1) b w b' w'
  depth : open_depth w' ≡ open_depth w
  count : closed_count w' ≡ closed_count w
  end : get_or w' (ends_at + open_depth w) 0 ≡ t
  link_end : get_or w' (link_ends_at + open_depth w) 0 ≡ l
  rise : top w ≤ t
  link_rise : link_top w ≤ l
  apart : t ≤ low w
  link_apart : l ≤ link_low w
  gap : (i : ℕ) → t ≤ i → i < low w → get_or b' i 0 ≡ 0
  bytes : part (under w) t b' ≡ (f (innermost_in b w)).bytes
  links : links_from w' (link_under w) l ≡ (f (innermost_in b w)).links
  right : object_ok (closed_count w) (f (innermost_in b w)) ≡ true

module _ {b w : List ℕ} (s : Sound b w) (h : 0 < open_depth w) where
  grows-leaves : {t l : ℕ} {b' w' : List ℕ} (f : Object → Object) → Grows f t l b w b' w' → (y : Tally)
      → y ≡ record { bytes = t + (length b - low w); links = l + (link_limit w - link_low w); objects = closed_count w; depth = open_depth w }
      → Leaves b w b' w' y (on_innermost f (decode b w))
  unfolding decode
  grows-leaves {t} {l} {b'} {w'} f g y e =
      let d : ℕ = open_depth w - 1 in
      let n : open_depth w ≡ suc d = omega arith in
      let u = inner_edges b w h s in
      let p : ends_at + d + 1 ≡ ends_at + open_depth w = omega arith in
      let q : link_ends_at + d + 1 ≡ link_ends_at + open_depth w = omega arith in
      let opens =
      more-opens (f (innermost_in b w)) (kept-opens s g.kept (omega (arith, g.count))) (rw p g.end) (rw q g.link_end) (omega (arith, g.rise)) (omega (arith, g.link_rise))
      g.bytes g.links (rw g.count g.right) in
      subst (λ a. Leaves b w b' w' y a) (sym (ap₂ (λ (o : Object) (os : List Object). with_opens (f o ∷ os) (decode b w)) (innermost-decode b w h) (outer-decode b w)))
      (sides-leave s g.kept opens (kept-closed s g.kept) (g.depth ∙ n) g.count (omega arith) (omega arith) g.apart g.link_apart g.gap y (e ∙ tally-same refl refl refl n))

-- ---- put

module _ {b w : List ℕ} (vs : List ℕ) (s : Sound b w) (h : 0 < open_depth w) (r : top w + length vs ≤ low w) where
  abbrev put_bytes : List ℕ
  put_bytes = over (top w) vs b

  abbrev put_words : List ℕ
  put_words = set w (ends_at + open_depth w) (top w + length vs)

  put-others : (j : ℕ) → (j ≡ ends_at + open_depth w → ⊥) → get_or put_words j 0 ≡ get_or w j 0
  put-others j e = get_or-set_other w (ends_at + open_depth w) j (top w + length vs) 0 e

  put-grows : Grows (with_bytes vs) (top w + length vs) (link_top w) b w put_bytes put_words
  put-grows =
      let d : ℕ = open_depth w - 1 in
      let e = inner_edges b w h s in
      let within : top w + length vs ≤ length b = omega arith in
      let kept : ObjectsKept d b w put_bytes put_words =
      kept-others s (omega arith) (omega arith) (length_over (top w) vs b within) (λ i k. over-before (top w) vs b within i (omega arith))
      (λ i k. over-after (top w) vs b within i (omega arith)) (length-set w _ _) (λ j o. put-others j (λ f. o.end (omega arith))) in
      record {
        kept = kept;
        depth = put-others 2 (omega arith);
        count = put-others 1 (omega arith);
        end = get_or-set_same w (ends_at + open_depth w) (top w + length vs) 0 (omega arith);
        link_end = put-others (link_ends_at + open_depth w) (omega arith);
        rise = omega arith;
        link_rise = le_refl _;
        apart = r;
        link_apart = s.link_apart;
        gap = λ i a c. over-after (top w) vs b within i a ∙ zeros-in (top w) (low w) b s.gap i (omega arith) c;
        bytes = part-grown (top w) vs b within (under w) e.rise ∙ ap (λ (o : Object). o.bytes ++ vs) (sym (inner-is b w h));
        links =
            links-kept s kept (link_under w) (link_top w) (omega arith) (λ i a c. put-others i (omega arith))
            ∙ ap (λ (o : Object). o.links) (sym (inner-is b w h));
        right = ok-put (closed_count w) (innermost_in b w) (inner-right b w h s) vs;
      }

  pub put-leaves : Leaves b w put_bytes put_words (grown (length vs) 0 (tally_in b w)) (on_innermost (with_bytes vs) (decode b w))
  put-leaves = grows-leaves s h (with_bytes vs) put-grows (grown (length vs) 0 (tally_in b w)) (tally-same (omega arith) (omega arith) refl refl)

-- ---- link

module _ {b w : List ℕ} (width id inner : ℕ) (s : Sound b w) (h : 0 < open_depth w) (r : top w + width ≤ low w) (q : link_top w < link_low w) where
  abbrev made : Link
  made = made_link width id inner w

  abbrev linked_words : List ℕ
  linked_words = link_words_of made w

  link_fits : links_at w + link_top w * link_words + length (words_of made) ≤ length w
  link_fits = omega arith

  link-over : (j : ℕ) → (j ≡ ends_at + open_depth w → ⊥) → (j ≡ link_ends_at + open_depth w → ⊥)
      → get_or linked_words j 0 ≡ get_or (over (links_at w + link_top w * link_words) (words_of made) w) j 0
  link-over j e f = simp (get_or-set_other, e, f)

  -- every word but the two ends and the link's own
  link-others : (j : ℕ) → (j ≡ ends_at + open_depth w → ⊥) → (j ≡ link_ends_at + open_depth w → ⊥) → (links_at w + link_top w * link_words ≤ j → links_at w + link_low w * link_words ≤ j)
      → get_or linked_words j 0 ≡ get_or w j 0
  link-others j e f g = link-over j e f ∙ go (dec_le (links_at w + link_top w * link_words) j)
    where
      go : Dec (links_at w + link_top w * link_words ≤ j) → get_or (over (links_at w + link_top w * link_words) (words_of made) w) j 0 ≡ get_or w j 0
      go (yes k) = let m = g k in over-after _ (words_of made) w link_fits j (omega arith)
      go (no k) = over-before _ (words_of made) w link_fits j (omega arith)

  link-words-kept : length linked_words ≡ length w
  link-words-kept = simp length-set (length_over _ (words_of made) w link_fits)

  link-kept : ObjectsKept (open_depth w - 1) b w b linked_words
  link-kept =
      let u = inner_edges b w h s in
      kept-others s (omega arith) (omega arith) refl (λ i k. refl) (λ i k. refl) link-words-kept
      (λ j o. link-others j (λ e. o.end (omega arith)) (λ e. o.link_end (omega arith)) (λ k. o.link (omega arith)))

  link-bytes : part (under w) (top w + width) b ≡ (innermost_in b w).bytes ++ replicate width 0
  link-bytes =
      let u = inner_edges b w h s in
      let n : top w + width - top w ≡ width = omega arith in
      sym (part_join (under w) (top w) (top w + width) b u.rise (omega arith))
      ∙ ap₂ (λ (x y : List ℕ). x ++ y) (ap (λ (o : Object). o.bytes) (sym (inner-is b w h)))
      (part-zeros (top w) (top w + width) b (omega arith) (λ i a c. zeros-in (top w) (low w) b s.gap i a (omega arith)) ∙ ap (λ (k : ℕ). replicate k 0) n)

  link-links : links_from linked_words (link_under w) (link_top w + 1) ≡ (innermost_in b w).links ++ (new_link width id inner (innermost_in b w) ∷ [])
  link-links =
      let u = inner_edges b w h s in
      let a : ℕ = links_at w + link_under w * link_words in
      let i : ℕ = links_at w + link_top w * link_words in
      let e : links_at w + (link_top w + 1) * link_words ≡ i + link_words = omega arith in
      let n = length_over i (words_of made) w link_fits in
      links-at s link-kept (link_under w) (link_top w + 1) (omega arith)
      ∙ ap links_of
      (ap (λ (k : ℕ). part a k linked_words) e
      ∙ part_same a (i + link_words) (over i (words_of made) w) linked_words (omega arith) (omega (arith, link-words-kept)) (λ k x y. link-over k (omega arith) (omega arith))
      ∙ part-grown i (words_of made) w link_fits a (omega arith))
      ∙ links_of-append (link_top w - link_under w) (part a i w) (words_of made) (omega (arith, length_part a i w (omega arith)))
      ∙ ap₂ (λ (x y : List Link). x ++ y)
      (ap links_of (sym (link-words w (link_under w) (link_top w) (omega arith))) ∙ ap (λ (o : Object). o.links) (sym (inner-is b w h)))
      (links_of-words made ∙ ap (λ (k : ℕ). link_of_words k width inner id ∷ []) (inner-size b w h s))

  link-grows : slot_ok made.slot ≡ true → id < closed_count w → Grows (with_link width id inner) (top w + width) (link_top w + 1) b w b linked_words
  link-grows right known =
      let over' : List ℕ = over (links_at w + link_top w * link_words) (words_of made) w in
      let n = length_over _ (words_of made) w link_fits in
      let x : ends_at + open_depth w < length over' = omega arith in
      let y : link_ends_at + open_depth w < length over' = omega arith in
      let z : ends_at + open_depth w ≡ link_ends_at + open_depth w → ⊥ = omega arith in
      record {
        kept = link-kept;
        depth = link-others 2 (omega arith) (omega arith) (omega arith);
        count = link-others 1 (omega arith) (omega arith) (omega arith);
        end = simp (get_or-set_other, get_or-set_same);
        link_end = simp (get_or-set_same, lt-length-set);
        rise = omega arith;
        link_rise = omega arith;
        apart = r;
        link_apart = omega arith;
        gap = λ i a c. zeros-in (top w) (low w) b s.gap i (omega arith) c;
        bytes = link-bytes;
        links = link-links;
        right = ok-link (closed_count w) (innermost_in b w) (inner-right b w h s) width id inner (rw (inner-size b w h s) at right) known;
      }

  pub link-leaves : slot_ok made.slot ≡ true → id < closed_count w → Leaves b w b linked_words (grown width 1 (tally_in b w)) (on_innermost (with_link width id inner) (decode b w))
  link-leaves right known = grows-leaves s h (with_link width id inner) (link-grows right known) (grown width 1 (tally_in b w)) (tally-same (omega arith) (omega arith) refl refl)

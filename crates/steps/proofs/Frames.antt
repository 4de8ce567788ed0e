-- What a step leaves as it was: the objects that lie in no part of the stores that it writes.
use mathlib.Core.Path.{◌≡◌, refl, sym, ap, ap₂, ◌∙◌}
use Prim.Native.Nat.{ℕ, zero, suc, ◌+◌, ◌*◌, ◌≤◌, ◌<◌}
use native.Mathlib.Nat.{add-zero}
use mathlib.Core.List.{List, [], ◌∷◌, ◌++◌}
use native.Mathlib.Omega.{arith}
use lib.ListN.{length, get_or}
use Rattle.lists.specs.Lists.{part}
use Rattle.lists.proofs.Frames.{part_same}
use Rattle.model_orders.specs.Object.{Object}
use Rattle.model.specs.Judge.{most_open}
use Rattle.layout.specs.Words.{object_limit_at, open_depth_at, object_limit, closed_count, open_depth, ends_at, link_ends_at, begins_at, link_begins_at, links_at, link_words, link_limit, limits_in, links_of, low, link_low}
use Rattle.layout.specs.Decode.{links_from, open_at, closed_at, opens_to, closed_to}
use Rattle.layout.specs.Known.{Head, Sound}
use Rattle.layout.proofs.Links.{link-words}
use Rattle.layout.proofs.Facts.{sound-tables}
use Rattle.steps.proofs.Tables.{rising-last, rising-within}

-- entries 0 to n of a table from index `base` on, the same in both
pub record Same (base n : ℕ) (w w' : List ℕ) : Type 0 where
  pub at : (i : ℕ) → i ≤ n → get_or w' (base + i) 0 ≡ get_or w (base + i) 0

pub same_next : {base n : ℕ} {w w' : List ℕ} → Same base n w w' → (i : ℕ) → i < n → get_or w' (base + i + 1) 0 ≡ get_or w (base + i + 1) 0
same_next {base} same i h = let e : base + (i + 1) ≡ base + i + 1 = omega arith in rw e at (same.at (i + 1) (omega arith))

-- stores that keep the first d open objects of b w, and every closed one
pub record ObjectsKept (d : ℕ) (b w b' w' : List ℕ) : Type 0 where
  pub known : d ≤ open_depth w
  pub bytes : length b' ≡ length b
  pub words : length w' ≡ length w
  pub objects : object_limit w' ≡ object_limit w
  pub ends : Same ends_at d w w'
  pub link_ends : Same link_ends_at d w w'
  pub begins : Same begins_at (closed_count w) w w'
  pub link_begins : Same (link_begins_at w) (closed_count w) w w'
  pub front : (k : ℕ) → k < get_or w (ends_at + d) 0 → get_or b' k 0 ≡ get_or b k 0
  pub back : (k : ℕ) → low w ≤ k → get_or b' k 0 ≡ get_or b k 0
  pub link_front : (k : ℕ) → links_at w ≤ k → k < links_at w + get_or w (link_ends_at + d) 0 * link_words → get_or w' k 0 ≡ get_or w k 0
  pub link_back : (k : ℕ) → links_at w + link_low w * link_words ≤ k → get_or w' k 0 ≡ get_or w k 0

-- what a step on the object behind the first d open ones may write: the depth, one entry of each table of ends, links in front of the closed ones; word j is another
pub record Other (d : ℕ) (w : List ℕ) (j : ℕ) : Type 0 where
  pub depth : j ≡ open_depth_at → ⊥
  pub end : j ≡ ends_at + d + 1 → ⊥
  pub link_end : j ≡ link_ends_at + d + 1 → ⊥
  pub link : links_at w + get_or w (link_ends_at + d) 0 * link_words ≤ j → links_at w + link_low w * link_words ≤ j

module _ {d : ℕ} {b w b' w' : List ℕ} (s : Sound b w) (known : d ≤ open_depth w) (room : d < most_open) where
  pub kept-others : length b' ≡ length b → ((i : ℕ) → i < get_or w (ends_at + d) 0 → get_or b' i 0 ≡ get_or b i 0) → ((i : ℕ) → low w ≤ i → get_or b' i 0 ≡ get_or b i 0)
      → length w' ≡ length w → ((j : ℕ) → Other d w j → get_or w' j 0 ≡ get_or w j 0) → ObjectsKept d b w b' w'
  kept-others bytes front back words others =
      let e = rising-last (sound-tables s).link_ends d known in
      record {
        known = known;
        bytes = bytes;
        words = words;
        objects = others object_limit_at (omega arith);
        ends = record { at = λ i h. others (ends_at + i) (omega arith) };
        link_ends = record { at = λ i h. others (link_ends_at + i) (omega arith) };
        begins = record { at = λ i h. others (begins_at + i) (omega arith) };
        link_begins = record { at = λ i h. others (link_begins_at w + i) (omega arith) };
        front = front;
        back = back;
        link_front = λ i h k. others i (omega arith);
        link_back = λ i h. others i (omega arith);
      }

pub object-same : {o p : Object} → o.bytes ≡ p.bytes → o.links ≡ p.links → o ≡ p
object-same p q = λ i. record { bytes = p i; links = q i }

module _ (b w b' w' : List ℕ) where
  opens_to-same : (n : ℕ) → ((i : ℕ) → i < n → open_at b' w' i ≡ open_at b w i) → opens_to b' w' n ≡ opens_to b w n
  unfolding opens_to
  opens_to-same zero e = refl
  opens_to-same (suc n) e = ap₂ (λ (o : Object) (os : List Object). o ∷ os) (e n (omega arith)) (opens_to-same n (λ i m. e i (omega arith)))

  closed_to-same : (n : ℕ) → ((i : ℕ) → i < n → closed_at b' w' i ≡ closed_at b w i) → closed_to b' w' n ≡ closed_to b w n
  unfolding closed_to
  closed_to-same zero e = refl
  closed_to-same (suc n) e = ap₂ (λ (os : List Object) (o : Object). os ++ (o ∷ [])) (closed_to-same n (λ i m. e i (omega arith))) (e n (omega arith))

module _ {d : ℕ} {b w b' w' : List ℕ} (s : Sound b w) (k : ObjectsKept d b w b' w') where
  link_begins_at-kept : link_begins_at w' ≡ link_begins_at w
  link_begins_at-kept = rw k.objects

  links_at-kept : links_at w' ≡ links_at w
  links_at-kept = rw k.objects

  link_limit-kept : link_limit w' ≡ link_limit w
  link_limit-kept = rw link_begins_at-kept (rw (add-zero (link_begins_at w)) at (k.link_begins.at 0 (omega arith)))

  pub limits-kept : limits_in w' ≡ limits_in w
  limits-kept = λ i. record { objects = k.objects i; links = link_limit-kept i; bytes = k.begins.at 0 (omega arith) i }

  pub head-kept : open_depth w' ≤ most_open → closed_count w' ≤ object_limit w → Head (length b') w'
  head-kept m n =
      let l = link_limit-kept in
      record {
        some = omega arith;
        few = omega arith;
        few_links = omega arith;
        full = omega arith;
        most = omega arith;
        room = omega arith;
        size = k.begins.at 0 (omega arith) ∙ omega arith;
        closed = omega arith;
        depth = m;
        base = k.ends.at 0 (omega arith) ∙ s.head.base;
        link_base = k.link_ends.at 0 (omega arith) ∙ s.head.link_base;
      }

  -- ---- links by their words, and objects

  pub links-at : (a e : ℕ) → e ≤ link_limit w → links_from w' a e ≡ links_of (part (links_at w + a * link_words) (links_at w + e * link_words) w')
  links-at a e m =
      let l = link_limit-kept in
      ap links_of
      (link-words w' a e (omega arith)
      ∙ ap (λ (n : ℕ). part (n + a * link_words) (n + e * link_words) w') links_at-kept)

  pub links-kept : (a e : ℕ) → e ≤ link_limit w → ((i : ℕ) → links_at w + a * link_words ≤ i → i < links_at w + e * link_words → get_or w' i 0 ≡ get_or w i 0)
      → links_from w' a e ≡ links_from w a e
  links-kept a e m same =
      links-at a e m
      ∙ ap links_of (part_same (links_at w + a * link_words) (links_at w + e * link_words) w w' (omega arith) k.words same ∙ sym (link-words w a e m))

  pub open_kept : (i : ℕ) → i < d → open_at b' w' i ≡ open_at b w i
  open_kept i m =
      let t = sound-tables s in
      let e = rising-within t.ends d k.known (omega arith) i m in
      let f = rising-within t.link_ends d k.known (omega arith) i m in
      let x = rising-last t.ends d k.known in
      let y = rising-last t.link_ends d k.known in
      object-same
      (ap₂ (λ (a e : ℕ). part a e b') (k.ends.at i (omega arith)) (same_next k.ends i m)
      ∙ part_same (get_or w (ends_at + i) 0) (get_or w (ends_at + i + 1) 0) b b' (omega arith) k.bytes (λ j p q. k.front j (omega arith)))
      (ap₂ (λ (a e : ℕ). links_from w' a e) (k.link_ends.at i (omega arith)) (same_next k.link_ends i m)
      ∙ links-kept (get_or w (link_ends_at + i) 0) (get_or w (link_ends_at + i + 1) 0) (omega arith) (λ j p q. k.link_front j (omega arith) (omega arith)))

  pub closed-kept : (i : ℕ) → i < closed_count w → closed_at b' w' i ≡ closed_at b w i
  closed-kept i m =
      let c = closed_count w in
      let t = sound-tables s in
      let e = t.begins.above i m in
      let f = t.link_begins.above i m in
      let x = t.begins.under i (omega arith) in
      let y = t.link_begins.under i (omega arith) in
      object-same
      (ap₂ (λ (a e : ℕ). part a e b') (same_next k.begins i m) (k.begins.at i (omega arith))
      ∙ part_same (get_or w (begins_at + i + 1) 0) (get_or w (begins_at + i) 0) b b' (omega arith) k.bytes (λ j p q. k.back j (omega arith)))
      (ap (λ (n : ℕ). links_from w' (get_or w' (n + i + 1) 0) (get_or w' (n + i) 0)) link_begins_at-kept
      ∙ ap₂ (λ (a e : ℕ). links_from w' a e) (same_next k.link_begins i m) (k.link_begins.at i (omega arith))
      ∙ links-kept (get_or w (link_begins_at w + i + 1) 0) (get_or w (link_begins_at w + i) 0) (omega arith) (λ j p q. k.link_back j (omega arith)))

  pub opens_to-kept : opens_to b' w' d ≡ opens_to b w d
  opens_to-kept = opens_to-same b w b' w' d open_kept

  pub closed_to-kept : closed_to b' w' (closed_count w) ≡ closed_to b w (closed_count w)
  closed_to-kept = closed_to-same b w b' w' (closed_count w) closed-kept

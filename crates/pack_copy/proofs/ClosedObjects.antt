-- Closed objects by their entries and by their ids, and links as words of a memory.
use mathlib.Core.Path.{◌≡◌, refl}
use Prim.Native.Nat.{ℕ, zero, suc, ◌+◌, ◌*◌, ◌≤◌, ◌<◌}
use native.Mathlib.Nat.{add-zero}
use mathlib.Core.List.{List}
use mathlib.Core.Bool.{true}
use native.Mathlib.Omega.{arith}
use lib.ListN.{length, get_or, get_or-eq_default}
use Rattle.lists.proofs.Runs.{drop-first}
use Rattle.regions.specs.Region.{region}
use Rattle.model_orders.specs.Object.{Link, no_object, object_at, width_ok}
use Rattle.model_orders.specs.Graph.{graph_of, Ranked, Acyclic}
use Rattle.layout.specs.Words.{link_limit, closed_count, begins_at, link_begins_at, link_words, link_at, links_of}
use Rattle.layout.specs.Fields.{fields_ok}
use Rattle.layout.specs.Decode.{closed_to, decode}
use Rattle.layout.specs.Known.{Sound}
use Rattle.layout.proofs.Facts.{sound-tables, sound-of}
use Rattle.work.specs.Packed.{packed_words, Halves, packed_at}
use Rattle.order_graph.specs.Graph.{links_from}
use Rattle.pack_copy.specs.Copy.{Packs}
use Rattle.model_orders.proofs.Slots.{slot-wide}
use Rattle.steps.proofs.Fields.{first_field, other-fields}
use Rattle.steps.proofs.Formed.{sound-formed}
use Rattle.steps.proofs.Tallies.{length-closed}

-- ---- by its entries of the tables

-- in order and inside
pub record Entries (b w : List ℕ) (i : ℕ) : Type 0 where
  pub order : get_or w (begins_at + i + 1) 0 ≤ get_or w (begins_at + i) 0
  pub inside : get_or w (begins_at + i) 0 ≤ length b
  pub link_order : get_or w (link_begins_at w + i + 1) 0 ≤ get_or w (link_begins_at w + i) 0
  pub link_inside : get_or w (link_begins_at w + i) 0 ≤ link_limit w

pub entries : {b w : List ℕ} → Sound b w → (i : ℕ) → i < closed_count w → Entries b w i
entries s i h =
    let t = sound-tables s in
    record {
      order = omega (arith, t.begins.next i h);
      inside = omega (arith, t.begins.under i (omega arith));
      link_order = omega (arith, t.link_begins.next i h);
      link_inside = t.link_begins.under i (omega arith);
    }

-- links of later objects lie in front of those of earlier ones
pub links-fall : {b w : List ℕ} → Sound b w → (i d : ℕ) → i + d ≤ closed_count w → get_or w (link_begins_at w + (i + d)) 0 ≤ get_or w (link_begins_at w + i) 0
links-fall {w = w} s i zero h = let e : i + zero ≡ i = omega arith in rw e (omega arith)
links-fall {w = w} s i (suc d) h =
    let e : link_begins_at w + (i + suc d) ≡ link_begins_at w + (i + d) + 1 = omega arith in
    rw e (omega (arith, (entries s (i + d) (omega arith)).link_order, links-fall s i d (omega arith)))

-- ---- by id, past the last

pub closed-past : (b w : List ℕ) (n i : ℕ) → n ≤ i → object_at (closed_to b w n) i ≡ no_object
closed-past b w n i h = get_or-eq_default (closed_to b w n) no_object {n = i} (omega (arith, length-closed b w n))

-- ---- links in a memory

pub packs-from : (w f : List ℕ) (i j m n : ℕ) → Packs w i f j (m + n) → Packs w (i + m * 2) f (j + m) n
packs-from w f i j m n p t h =
    let x : i + m * 2 + t * 2 ≡ i + (m + t) * 2 = omega arith in
    let y : j + m + t ≡ j + (m + t) = omega arith in
    rw (x, y) (p (m + t) (omega arith))

link-packed : (w f : List ℕ) (i j : ℕ) → Packs w i f j packed_words → packed_at f j ≡ link_at w i
link-packed w f i j h =
    let three : i + 2 + 1 ≡ i + 3 = omega arith in
    let slot : Halves (get_or w i 0) (get_or w (i + 1) 0) (get_or f j 0) = rw (add-zero i, add-zero j) at (h 0 (omega arith)) in
    let target : Halves (get_or w (i + 2) 0) (get_or w (i + 3) 0) (get_or f (j + 1) 0) = rw three at (h 1 (omega arith)) in
    rw (slot.low-is, slot.high_is, target.low-is, target.high_is)

pub links-packed : (w f : List ℕ) (k i j : ℕ) → i + k * link_words ≤ length w → Packs w i f j (k * packed_words) → links_from f j k ≡ links_of (region i (k * link_words) w)
unfolding links_from links_of
links-packed w f zero i j h p = refl
links-packed w f (suc k) i j h p =
    let n : suc k * link_words ≡ suc (suc (suc (suc (k * link_words)))) = omega arith in
    let a : i + 1 + 1 ≡ i + 2 = omega arith in
    let b : i + 2 + 1 ≡ i + 3 = omega arith in
    let c : i + 3 + 1 ≡ i + link_words = omega arith in
    let one = link-packed w f i j (λ t b. p t (omega arith)) in
    let more = links-packed w f k (i + link_words) (j + packed_words) (omega arith) (packs-from w f i j packed_words (k * packed_words) (λ t b. p t (omega arith))) in
    rw (n, drop-first i w (omega arith), drop-first (i + 1) w (omega arith), a, drop-first (i + 2) w (omega arith), b, drop-first (i + 3) w (omega arith), c, one, more)

-- what a right field's tests say of its link
pub record Right (kids : ℕ) (l : Link) : Type 0 where
  pub wide : width_ok l.slot.width ≡ true
  pub lower : l.child < kids

pub fields-right : (kids from : ℕ) (bs f : List ℕ) (k j : ℕ) → fields_ok kids from bs (links_from f j k) ≡ true
    → (t : ℕ) → t < k → Right kids (packed_at f (j + t * packed_words))
unfolding links_from
fields-right kids from bs f zero j h t b = absurd (omega arith)
fields-right kids from bs f (suc k) j h zero b =
    let r = first_field kids from bs (packed_at f j) (links_from f (j + packed_words) k) h in
    rw (add-zero j) (record { wide = slot-wide (packed_at f j).slot r.right; lower = r.known })
fields-right kids from bs f (suc k) j h (suc t) b =
    let l = packed_at f j in
    let e : j + packed_words + t * packed_words ≡ j + suc t * packed_words = omega arith in
    rw e at (fields-right kids (l.slot.at + l.slot.width) bs f k (j + packed_words) (other-fields kids from bs l (links_from f (j + packed_words) k) h) t (omega arith))

-- ---- as a graph: children have lower ids

pub sound-acyclic : {b w : List ℕ} → Sound b w → Acyclic (graph_of (decode b w).closed)
unfolding Ranked
sound-acyclic {b} {w} s p c h = (sound-formed b w (sound-of s) p).low c h

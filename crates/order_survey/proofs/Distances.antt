-- What the distances in the work memory end as is the least sums: no path is as long as `far_away`.
use mathlib.Core.Path.{◌≡◌, refl, ◌∙◌}
use Prim.Native.Nat.{ℕ, suc, ◌+◌, ◌-◌, ◌*◌, ◌≤◌, ◌<◌}
use mathlib.Core.List.{List, []}
use native.Mathlib.Omega.{arith}
use native.Mathlib.Decide.{dec_le}
use lib.ListN.{length, get_or, replicate, length-set, length-replicate}
use borrow.Author.Tests.{le-ltb, lt-ltb}
use Rattle.big_endian.proofs.Laws.{capacity-rises}
use Rattle.model_orders.specs.Bag.{count}
use Rattle.model_orders.specs.Object.{Link, widest}
use Rattle.model_orders.specs.Graph.{Graph, Ranked, ParentsFirst, Rooted}
use Rattle.model_orders.specs.Distance.{In, here, there, Path, start, along, Least, weight, distances_by}
use Rattle.model_orders.proofs.Slots.{width-most}
use Rattle.model_orders.proofs.Distances.{in-kids, all-length, distance_least}
use Rattle.work.specs.Packed.{packed_words, packed_at}
use Rattle.work.specs.declared.Areas.{Areas}
use Rattle.order_graph.specs.Graph.{graph_in, links_from, links_at, link_count, link_of, most_nodes, most_weight, Tidy}
use Rattle.order_survey.specs.Survey.{far_away}
use Rattle.order_survey.proofs.Lowers.{get_or-inside}

abbrev pub Light : Graph → Type 0
Light g = (i : ℕ) (l : Link) → In l (g.links i) → weight g l < most_weight

-- ---- a tidy graph is light

-- what holds of each link's words holds of the links read
links-each : (P : Link → Type 0) (f : List ℕ) (j k : ℕ) → ((t : ℕ) → t < k → P (packed_at f (j + t * packed_words))) → (l : Link) → In l (links_from f j k) → P l
unfolding links_from
links-each P f j Prim.Native.Nat.zero h l x'' = elim x'' [ ]
links-each P f j (suc k) h l (here e) = let z : j + 0 * packed_words ≡ j = omega arith in rw (e, ← z) (h 0 (omega arith))
links-each P f j (suc k) h l (there i) =
    links-each P f (j + packed_words) k (λ t b. let z : j + packed_words + t * packed_words ≡ j + suc t * packed_words = omega arith in rw z (h (suc t) (omega arith))) l i

-- only nodes below n have links
pub node-links : (a : Areas) (n : ℕ) (f : List ℕ) (P : Link → Type 0) (i : ℕ) → (i < n → (t : ℕ) → t < link_count a f i → P (link_of a f i t))
    → (l : Link) → In l ((graph_in a n f).links i) → P l
node-links a n f P i h l k = go (dec_le (suc i) n)
  where
    none : In l [] → P l
    none = elim [ ]

    go : Dec (i < n) → P l
    go (yes b) =
        let z : links_at a f i + 0 * packed_words ≡ links_at a f i = omega arith in
        links-each P f (links_at a f i + 0 * packed_words) (link_count a f i - 0) (λ m c. rw z (h b m (omega arith))) l (rw (lt-ltb i n b) at k)
    go (no b) = none (rw (le-ltb i n (omega arith)) at k)

pub tidy-light : {a : Areas} {n : ℕ} {f : List ℕ} → Tidy a n f → Light (graph_in a n f)
tidy-light {a} {n} {f} s i l k = node-links a n f (λ m. weight (graph_in a n f) m < most_weight) i light l k
  where
    light : i < n → (t : ℕ) → t < link_count a f i → weight (graph_in a n f) (link_of a f i t) < most_weight
    light b t h =
        let o = s.node i b in
        let c = (link_of a f i t).child in
        rw (lt-ltb c n (o.known t h)) (omega (arith, s.light c (o.known t h), capacity-rises (link_of a f i t).slot.width widest (width-most (link_of a f i t).slot.width (o.wide t h))))

-- ---- no path is as long as `far_away`

-- every step leads to a lower rank
path-short : (g : Graph) (rank : ℕ → ℕ) → Ranked rank g → Light g → (root : ℕ) {c d : ℕ} → Path g (weight g) root c d → d + rank c * most_weight ≤ rank root * most_weight
unfolding Ranked
path-short g rank y light root (start e z) = rw (e, z) (omega arith)
path-short g rank y light root (along {p = p} l w i e z) =
    let s = y p l.child (in-kids l (g.links p) i) in
    rw (e, z) (omega (arith, light p l i, path-short g rank y light root w))

paths-near : most_nodes * most_weight ≤ far_away
paths-near = omega arith

-- along a line o of the nodes to place
module _ (g : Graph) (rank : ℕ → ℕ) (y : Ranked rank g) (light : Light g) (root : ℕ) (low : rank root < most_nodes)
    (o : List ℕ) (r : Rooted g o root) (first : ParentsFirst g o) (nodes : ℕ) (inside : (c : ℕ) → 0 < count c o → c < nodes) where
  abbrev sums : List ℕ
  sums = distances_by far_away (weight g) g o nodes root

  sums-long : length sums ≡ nodes
  unfolding distances_by
  sums-long = all-length far_away (weight g) g o _ ∙ length-set (replicate nodes far_away) root 0 ∙ length-replicate nodes far_away

  pub sums-least : (c : ℕ) → 0 < count c o → Least g (weight g) root c (get_or sums c 0)
  sums-least c k =
      rw (get_or-inside sums c 0 far_away (omega (arith, sums-long, inside c k)))
      (distance_least far_away (weight g) g o root r o (λ c. refl) first nodes inside rank y (λ c d v. omega (arith, path-short g rank y light root v, paths-near)) c k)

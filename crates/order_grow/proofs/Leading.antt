-- One link led elsewhere: one half of one word changes.
use mathlib.Core.Path.{◌≡◌, sym, ap, ◌∙◌}
use Prim.Native.Nat.{ℕ, ◌+◌, ◌*◌, ◌/◌, ◌%◌, ◌<◌}
use mathlib.Core.List.{List}
use native.Mathlib.Omega.{arith}
use native.Mathlib.Decide.{ℕ_discrete}
use mathlib.Core.Bool.{true}
use lib.ListN.{get_or, set, take, length-set}
use lib.Seq.{get_or-take, get_or-set_same, get_or-set_other}
use Rattle.regions.proofs.Frame.{kept_set}
use Rattle.model_orders.specs.Object.{Link, width_ok}
use Rattle.model_orders.specs.Copies.{lead_to}
use Rattle.work.specs.Packed.{packed_words, most_half}
use Rattle.work.specs.declared.Areas.{Areas}
use Rattle.order_graph.specs.Graph.{links_at, link_of, link_count, TidyNode, Stands, first_link}
use Rattle.order_grow.specs.Grow.{NodeAs, Leading, LinkLed}
use Rattle.order_grow.proofs.Alike.{as-tidy}
use Rattle.order_grow.proofs.Appending.{packed-same}

-- a word whose high half is y
pub led-low : (v y : ℕ) → (v % most_half + y * most_half) % most_half ≡ v % most_half
led-low v y = omega arith

pub led-high : (v y : ℕ) → (v % most_half + y * most_half) / most_half ≡ y
led-high v y = omega arith

module _ {a : Areas} {n p t y : ℕ} {w : List ℕ} (s : Leading a n p t y w) where
  abbrev f : List ℕ
  f = take a.keys w

  -- the word that changes
  abbrev j : ℕ
  j = links_at a f p + t * packed_words

  abbrev v : ℕ
  v = get_or w (j + 1) 0 % most_half + y * most_half

  abbrev w' : List ℕ
  w' = set w (j + 1) v

  abbrev f' : List ℕ
  f' = take a.keys w'

  abbrev stands : Stands a n w
  stands = s.link.node.graph

  tidy-p : TidyNode a n f p
  tidy-p = stands.tidy.node p s.link.node.inside

  inside : j + 1 < a.keys
  inside = omega (arith, tidy-p.within, s.link.some)

  same : (i : ℕ) → i < a.keys → (i ≡ j + 1 → ⊥) → get_or f' i 0 ≡ get_or f i 0
  same i b h = get_or-take a.keys w' i 0 b ∙ get_or-set_other w (j + 1) i v 0 h ∙ sym (get_or-take a.keys w i 0 b)

  stored : get_or f' (j + 1) 0 ≡ v
  stored = get_or-take a.keys w' (j + 1) 0 inside ∙ get_or-set_same w (j + 1) v 0 (omega (arith, inside, stands.apart, stands.long))

  node-word : (i : ℕ) → i < a.links → get_or f' i 0 ≡ get_or f i 0
  node-word i h = same i (omega (arith, stands.apart)) (λ e. omega arith)

  module _ (i : ℕ) (h : i < n) where
    first-same : first_link a f' i ≡ first_link a f i
    first-same = node-word (a.firsts + i) (omega (arith, stands.apart, stands.tidy.nodes))

    count_same : link_count a f' i ≡ link_count a f i
    count_same = node-word (a.counts + i) (omega (arith, stands.apart, stands.tidy.nodes))

    -- another link is as it was
    link-same : (u : ℕ) → u < link_count a f i → (first_link a f i + u ≡ first_link a f p + t → ⊥) → link_of a f' i u ≡ link_of a f i u
    link-same u b d =
        let k = links_at a f i + u * packed_words in
        let m = (stands.tidy.node i h).within in
        rw first-same (packed-same f f' k k (same k (omega (arith, m)) (λ e. omega arith)) (same (k + 1) (omega (arith, m)) (λ e. d (omega arith))))

  others : (i : ℕ) → i < n → (i ≡ p → ⊥) → NodeAs a f f' i i
  others i h d =
      record {
        size_is = node-word i (omega (arith, stands.apart, stands.tidy.nodes));
        count-is = count_same i h;
        link-is = λ u b. link-same i h u b (λ e. d (s.parted i p u t h s.link.node.inside b s.link.some e));
      }

  led : link_of a f' p t ≡ lead_to y (link_of a f p t)
  led =
      rw (
        first-same p s.link.node.inside,
        same j (omega (arith, inside)) (λ e. omega arith),
        stored,
        led-low (get_or w (j + 1) 0) y,
        led-high (get_or w (j + 1) 0) y,
        get_or-take a.keys w (j + 1) 0 inside,
      )

  rest : (u : ℕ) → u < link_count a f p → (u ≡ t → ⊥) → link_of a f' p u ≡ link_of a f p u
  rest u b d = link-same p s.link.node.inside u b (λ e. d (omega arith))

  -- link u of p, changed or not
  node-p : TidyNode a n f' p
  node-p =
      let e = first-same p s.link.node.inside in
      let k = count_same p s.link.node.inside in
      record {
        few = rw k tidy-p.few;
        within = rw (e, k) tidy-p.within;
        wide = λ u b. wide u (omega (arith, k)) (ℕ_discrete u t);
        known = λ u b. known u (omega (arith, k)) (ℕ_discrete u t);
      }
    where
      wide : (u : ℕ) → u < link_count a f p → Dec (u ≡ t) → width_ok (link_of a f' p u).slot.width ≡ true
      wide u b (yes e) = rw e (ap (λ (l : Link). width_ok l.slot.width) led ∙ tidy-p.wide t s.link.some)
      wide u b (no d) = ap (λ (l : Link). width_ok l.slot.width) (rest u b d) ∙ tidy-p.wide u b

      known : (u : ℕ) → u < link_count a f p → Dec (u ≡ t) → (link_of a f' p u).child < n
      known u b (yes e) = rw e (omega (arith, ap (λ (l : Link). l.child) led, s.known))
      known u b (no d) = omega (arith, ap (λ (l : Link). l.child) (rest u b d), tidy-p.known u b)

  node : (i : ℕ) → i < n → TidyNode a n f' i
  node i h = go (ℕ_discrete i p)
    where
      go : Dec (i ≡ p) → TidyNode a n f' i
      go (yes e) = rw e node-p
      go (no d) =
          let o = stands.tidy.node i h in
          as-tidy (others i h d) n n o (omega arith) (omega (arith, first-same i h, count_same i h, o.within))

  link-led : LinkLed a n p t y w w'
  link-led =
      record {
        kept = kept_set a.links a.keys w (j + 1) v (omega arith) inside;
        graph =
            record {
              apart = stands.apart;
              long = rw length-set stands.long;
              tidy = record {
                nodes = stands.tidy.nodes;
                limit = stands.tidy.limit;
                light = λ i h. rw (node-word i (omega (arith, stands.apart, stands.tidy.nodes))) (stands.tidy.light i h);
                node = node;
              };
            };
        others = others;
        led = led;
        rest = rest;
      }

  -- the word as it was found
  pub leading-all : {k : ℕ} → k ≡ j → LinkLed a n p t y w (set w (k + 1) (get_or w (k + 1) 0 % most_half + y * most_half))
  leading-all e = rw e link-led

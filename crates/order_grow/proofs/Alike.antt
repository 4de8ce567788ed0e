-- A node's links one by one, and two nodes that are alike.
use mathlib.Core.Path.{◌≡◌, refl, sym, ap, ap₂, ◌∙◌}
use Prim.Native.Nat.{ℕ, zero, suc, ◌+◌, ◌*◌, ◌≤◌, ◌<◌}
use mathlib.Core.List.{List, ◌∷◌}
use native.Mathlib.Omega.{arith}
use native.Mathlib.Nat.{add-zero, sub-zero}
use lib.ListN.{length}
use Rattle.model_orders.specs.Object.{Link, width_ok}
use Rattle.work.specs.Packed.{packed_words, packed_at}
use Rattle.work.specs.declared.Areas.{Areas}
use Rattle.order_graph.specs.Graph.{links_from, links_at, link_count, links_after, TidyNode}
use Rattle.order_grow.specs.Grow.{NodeAs}

abbrev pub nth : List ℕ → ℕ → ℕ → Link
nth f j t = packed_at f (j + t * packed_words)

abbrev pub kid : Link → ℕ
kid l = l.child

pub nth-first : (f : List ℕ) (j : ℕ) → nth f j 0 ≡ packed_at f j
nth-first f j = rw (add-zero j)

pub nth-next : (f : List ℕ) (j t : ℕ) → nth f j (suc t) ≡ nth f (j + packed_words) t
nth-next f j t = let e : j + suc t * packed_words ≡ j + packed_words + t * packed_words = omega arith in rw e

-- links that are the same one by one
pub links-each : (f f' : List ℕ) (k j j' : ℕ) → ((t : ℕ) → t < k → nth f' j' t ≡ nth f j t) → links_from f' j' k ≡ links_from f j k
unfolding links_from
links-each f f' zero j j' h = refl
links-each f f' (suc k) j j' h =
    ap₂ (λ (l : Link) (ls : List Link). l ∷ ls) (sym (nth-first f' j') ∙ h 0 (omega arith) ∙ nth-first f j)
    (links-each f f' k (j + packed_words) (j' + packed_words) (λ t m. sym (nth-next f' j' t) ∙ h (suc t) (omega arith) ∙ nth-next f j t))

-- ---- the links of a node

pub after-all : (a : Areas) (f : List ℕ) (i : ℕ) → links_after a f i 0 ≡ links_from f (links_at a f i) (link_count a f i)
after-all a f i = rw (add-zero (links_at a f i), sub-zero (link_count a f i))

pub length_from : (f : List ℕ) (k j : ℕ) → length (links_from f j k) ≡ k
unfolding links_from
length_from f zero j = refl
length_from f (suc k) j = ap suc (length_from f k (j + packed_words))

module _ {a : Areas} {f f' : List ℕ} {i j : ℕ} (s : NodeAs a f f' i j) where
  pub as-links : links_after a f' j 0 ≡ links_after a f i 0
  as-links = rw (after-all a f' j, after-all a f i, s.count-is) (links-each f f' (link_count a f i) (links_at a f i) (links_at a f' j) s.link-is)

  pub as-tidy : (n n' : ℕ) → TidyNode a n f i → n ≤ n' → links_at a f' j + link_count a f' j * packed_words ≤ a.keys → TidyNode a n' f' j
  as-tidy n n' o h within =
      record {
        few = rw s.count-is o.few;
        within = within;
        wide = λ t m. let b : t < link_count a f i = omega (arith, s.count-is) in ap (λ (l : Link). width_ok l.slot.width) (s.link-is t b) ∙ o.wide t b;
        known = λ t m. let b : t < link_count a f i = omega (arith, s.count-is) in omega (arith, ap kid (s.link-is t b), o.known t b);
      }

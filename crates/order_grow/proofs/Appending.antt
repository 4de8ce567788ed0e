-- A node appended: its three words, and its links' words behind those of all others.
use mathlib.Core.Path.{◌≡◌, refl, sym, ap, ◌∙◌}
use Prim.Native.Nat.{ℕ, ◌+◌, ◌*◌, ◌≤◌, ◌<◌}
use mathlib.Core.List.{List}
use native.Mathlib.Omega.{arith}
use native.Mathlib.Decide.{ℕ_discrete}
use lib.ListN.{length, get_or, set, take, length-set}
use lib.Seq.{get_or-take, get_or-set_same, get_or-set_other}
use Rattle.regions.specs.Region.{Kept}
use Rattle.regions.proofs.Laws.{region-at}
use Rattle.regions.proofs.Frame.{kept_then, kept_set, kept_less, kept_at}
use Rattle.work.specs.Packed.{packed_words, packed_at}
use Rattle.work.specs.declared.Areas.{Areas}
use Rattle.order_graph.specs.Graph.{links_at, link_of, link_count, most_size, TidyNode, first_link, Taken, Parted}
use Rattle.order_grow.specs.Grow.{NodeAs, node_set, Appending, LinksCopied, NodeAppended}
use Rattle.order_grow.proofs.Alike.{as-tidy}

-- a link by its two words
pub packed-same : (f f' : List ℕ) (j j' : ℕ) → get_or f' j' 0 ≡ get_or f j 0 → get_or f' (j' + 1) 0 ≡ get_or f (j + 1) 0 → packed_at f' j' ≡ packed_at f j
packed-same f f' j j' p q = rw (p, q)

module _ {a : Areas} {nodes links x : ℕ} {w : List ℕ} (s : Appending a nodes links x w) where
  abbrev f : List ℕ
  f = take a.keys w

  abbrev many : ℕ
  many = link_count a f x

  abbrev to : ℕ
  to = a.links + links * packed_words

  tidy-x : TidyNode a nodes f x
  tidy-x = s.node.graph.tidy.node x s.node.inside

  -- the links' words lie apart from their copies, and both lie in front
  pub links-behind : links_at a f x + many * packed_words ≤ to
  links-behind = omega (arith, s.taken x s.node.inside)

  pub links-room : to + many * packed_words ≤ a.keys
  links-room = omega (arith, s.link-room)

  module _ {w₁ : List ℕ} (c : LinksCopied a links x w w₁) where
    abbrev sized : List ℕ
    sized = set w₁ nodes (get_or w₁ x 0)

    abbrev begun : List ℕ
    begun = set sized (a.firsts + nodes) links

    abbrev w₂ : List ℕ
    w₂ = node_set a nodes (get_or w₁ x 0) links many w₁

    abbrev f₂ : List ℕ
    f₂ = take a.keys w₂

    long : length w₂ ≡ length w
    long = simp length-set c.kept.long

    fits : a.keys ≤ length w₁
    fits = omega (arith, c.kept.long, s.node.graph.apart, s.node.graph.long)

    -- the words that are not stored, those in front of the copies' among them
    unset : (j : ℕ) → j < a.keys → (j ≡ nodes → ⊥) → (j ≡ a.firsts + nodes → ⊥) → (j ≡ a.counts + nodes → ⊥) → get_or f₂ j 0 ≡ get_or w₁ j 0
    unset j b p q r =
        get_or-take a.keys w₂ j 0 b ∙ get_or-set_other begun (a.counts + nodes) j many 0 r ∙ get_or-set_other sized (a.firsts + nodes) j links 0 q
        ∙ get_or-set_other w₁ nodes j (get_or w₁ x 0) 0 p

    before : (j : ℕ) → j < to → get_or w₁ j 0 ≡ get_or f j 0
    before j b = kept_at c.kept j b ∙ get_or-take to w j 0 b ∙ sym (get_or-take a.keys w j 0 (omega (arith, links-room)))

    -- the three words of the new node
    size-new : get_or f₂ nodes 0 ≡ get_or f x 0
    size-new =
        let p = s.node.graph.apart in
        get_or-take a.keys w₂ nodes 0 (omega (arith, p, s.node-room))
        ∙ get_or-set_other begun (a.counts + nodes) nodes many 0 (λ e. omega (arith, p, s.node-room))
        ∙ get_or-set_other sized (a.firsts + nodes) nodes links 0 (λ e. omega (arith, p, s.node-room))
        ∙ get_or-set_same w₁ nodes (get_or w₁ x 0) 0 (omega (arith, fits, p, s.node-room))
        ∙ before x (omega (arith, p, s.node-room, s.node.inside))

    first-new : first_link a f₂ nodes ≡ links
    first-new =
        let p = s.node.graph.apart in
        get_or-take a.keys w₂ (a.firsts + nodes) 0 (omega (arith, p, s.node-room))
        ∙ get_or-set_other begun (a.counts + nodes) (a.firsts + nodes) many 0 (λ e. omega (arith, p, s.node-room))
        ∙ get_or-set_same sized (a.firsts + nodes) links 0 (rw length-set (omega (arith, fits, p, s.node-room)))

    count-new : link_count a f₂ nodes ≡ many
    count-new =
        let p = s.node.graph.apart in
        get_or-take a.keys w₂ (a.counts + nodes) 0 (omega (arith, p, s.node-room))
        ∙ get_or-set_same begun (a.counts + nodes) many 0 (rw (length-set, length-set) (omega (arith, fits, p, s.node-room)))

    -- a word of its links
    word-new : (j : ℕ) → j < many * packed_words → get_or f₂ (to + j) 0 ≡ get_or f (links_at a f x + j) 0
    word-new j b =
        let p = s.node.graph.apart in
        let n = many * packed_words in
        unset (to + j) (omega (arith, links-room)) (λ e. omega (arith, p, s.node-room)) (λ e. omega (arith, p, s.node-room)) (λ e. omega (arith, p, s.node-room))
        ∙ region-at to n w₁ j b ∙ ap (λ (l : List ℕ). get_or l j 0) c.done ∙ sym (region-at (links_at a f x) n w j b)
        ∙ sym (get_or-take a.keys w (links_at a f x + j) 0 (omega (arith, links-behind, links-room)))

    copy : NodeAs a f f₂ x nodes
    copy = record { size_is = size-new; count-is = count-new; link-is = link }
      where
        link : (t : ℕ) → t < many → link_of a f₂ nodes t ≡ link_of a f x t
        link t h =
            let p : to + t * packed_words + 1 ≡ to + (t * packed_words + 1) = omega arith in
            let q : links_at a f x + t * packed_words + 1 ≡ links_at a f x + (t * packed_words + 1) = omega arith in
            rw first-new
            (packed-same f f₂ (links_at a f x + t * packed_words) (to + t * packed_words) (word-new (t * packed_words) (omega arith))
            (rw (p, q) (word-new (t * packed_words + 1) (omega arith))))

    -- the words of the others
    module _ (i : ℕ) (h : i < nodes) where
      word-old : (j : ℕ) → j < to → (j ≡ nodes → ⊥) → (j ≡ a.firsts + nodes → ⊥) → (j ≡ a.counts + nodes → ⊥) → get_or f₂ j 0 ≡ get_or f j 0
      word-old j b p q r = unset j (omega (arith, links-room)) p q r ∙ before j b

      first-old : first_link a f₂ i ≡ first_link a f i
      first-old =
          let p = s.node.graph.apart in
          word-old (a.firsts + i) (omega (arith, p, s.node-room)) (λ e. omega (arith, p, s.node-room)) (λ e. omega arith) (λ e. omega (arith, p, s.node-room))

      count-old : link_count a f₂ i ≡ link_count a f i
      count-old =
          let p = s.node.graph.apart in
          word-old (a.counts + i) (omega (arith, p, s.node-room)) (λ e. omega (arith, p, s.node-room)) (λ e. omega (arith, p, s.node-room)) (λ e. omega arith)

      others : NodeAs a f f₂ i i
      others =
          record {
            size_is = let p = s.node.graph.apart in
                word-old i (omega (arith, p, s.node-room)) (λ e. omega arith) (λ e. omega (arith, p, s.node-room)) (λ e. omega (arith, p, s.node-room));
            count-is = count-old;
            link-is = link;
          }
        where
          link-word : (j : ℕ) → a.links ≤ j → j < to → get_or f₂ j 0 ≡ get_or f j 0
          link-word j b k =
              let p = s.node.graph.apart in
              word-old j k (λ e. omega (arith, p, s.node-room)) (λ e. omega (arith, p, s.node-room)) (λ e. omega (arith, p, s.node-room))

          link : (t : ℕ) → t < link_count a f i → link_of a f₂ i t ≡ link_of a f i t
          link t k =
              let j = links_at a f i + t * packed_words in
              let b = s.taken i h in
              rw first-old (packed-same f f₂ j j (link-word j (omega arith) (omega (arith, b, k))) (link-word (j + 1) (omega arith) (omega (arith, b, k))))

    -- all of them
    kept : Kept 0 a.keys w w₂
    kept =
        let p = s.node.graph.apart in
        kept_then (kept_less c.kept 0 a.keys (omega arith) links-room)
        (kept_then (kept_set 0 a.keys w₁ nodes (get_or w₁ x 0) (omega arith) (omega (arith, p, s.node-room)))
        (kept_then (kept_set 0 a.keys sized (a.firsts + nodes) links (omega arith) (omega (arith, p, s.node-room)))
        (kept_set 0 a.keys begun (a.counts + nodes) many (omega arith) (omega (arith, p, s.node-room)))))

    light : (i : ℕ) → i < nodes + 1 → get_or f₂ i 0 < most_size
    light i h = go (ℕ_discrete i nodes)
      where
        go : Dec (i ≡ nodes) → get_or f₂ i 0 < most_size
        go (yes e) = rw (e, size-new) (s.node.graph.tidy.light x s.node.inside)
        go (no n) = let b : i < nodes = omega arith in rw (others i b).size_is (s.node.graph.tidy.light i b)

    node : (i : ℕ) → i < nodes + 1 → TidyNode a (nodes + 1) f₂ i
    node i h = go (ℕ_discrete i nodes)
      where
        go : Dec (i ≡ nodes) → TidyNode a (nodes + 1) f₂ i
        go (yes e) = rw e (as-tidy copy nodes (nodes + 1) tidy-x (omega arith) (omega (arith, first-new, count-new, links-room)))
        go (no n) =
            let b : i < nodes = omega arith in
            let o = s.node.graph.tidy.node i b in
            as-tidy (others i b) nodes (nodes + 1) o (omega arith) (omega (arith, first-old i b, count-old i b, o.within))

    taken : Taken a (nodes + 1) (links + many) w₂
    taken i h = go (ℕ_discrete i nodes)
      where
        go : Dec (i ≡ nodes) → first_link a f₂ i + link_count a f₂ i ≤ links + many
        go (yes e) = rw (e, first-new, count-new) (omega arith)
        go (no n) = let b : i < nodes = omega arith in omega (arith, first-old i b, count-old i b, s.taken i b)

    -- a link of an old node is not one of the copy's
    old-new : (i k t u : ℕ) → i < nodes → k ≡ nodes → t < link_count a f₂ i → first_link a f₂ i + t ≡ first_link a f₂ k + u → ⊥
    old-new i k t u b e m q =
        omega (arith, first-old i b, count-old i b, s.taken i b, first-new, ap (first_link a f₂) e)

    parted : Parted a (nodes + 1) w₂
    parted i k t u h l m n q = go (ℕ_discrete i nodes) (ℕ_discrete k nodes)
      where
        go : Dec (i ≡ nodes) → Dec (k ≡ nodes) → i ≡ k
        go (yes d) (yes e) = d ∙ sym e
        go (yes d) (no e) = absurd (old-new k i u t (omega arith) d n (sym q))
        go (no d) (yes e) = absurd (old-new i k t u (omega arith) e m q)
        go (no d) (no e) =
            let b : i < nodes = omega arith in
            let v : k < nodes = omega arith in
            s.parted i k t u b v (omega (arith, count-old i b)) (omega (arith, count-old k v)) (omega (arith, first-old i b, first-old k v))

    appended : {links' : ℕ} → links' ≡ links + many → NodeAppended a nodes links x links' w w₂
    appended {links'} e =
        record {
          kept = kept;
          graph =
              record {
                apart = s.node.graph.apart;
                long = omega (arith, long, s.node.graph.long);
                tidy = record { nodes = omega (arith, s.node-room); limit = s.node.graph.tidy.limit; light = light; node = node };
              };
          others = others;
          copy = copy;
          links-is = e;
          taken = rw e taken;
          parted = parted;
        }

  -- the words as they were stored
  pub appended-by : {k : ℕ} {w₁ w₂ : List ℕ} → k ≡ many → LinksCopied a links x w w₁ → w₂ ≡ node_set a nodes (get_or w₁ x 0) links k w₁
      → NodeAppended a nodes links x (links + k) w w₂
  appended-by e c d = rw (d, e) (appended c refl)

-- A graph with a copy is a graph to place as before, and every node reads as its object does.
use mathlib.Core.Path.{◌≡◌, refl, sym, ap, ◌∙◌}
use Prim.Native.Nat.{ℕ, ◌+◌, ◌≤◌, ◌<◌}
use mathlib.Core.List.{List, [], ◌∷◌}
use native.Mathlib.Omega.{arith}
use lib.ListN.{length}
use lib.Dec.{eqb}
use borrow.Author.Tests.{eq-eqb, ne_eqb}
use Rattle.lists.specs.Lists.{pick, total}
use Rattle.model_orders.specs.Bag.{one, count, without}
use Rattle.model_orders.specs.Graph.{Graph, kids, waits, Ranked, Closed, Once, ParentsFirst, Rooted}
use Rattle.model_orders.specs.Reading.{Reading, read_links, Reads}
use Rattle.model_orders.specs.Table.{FieldsIn, Fields}
use Rattle.model_orders.proofs.Bags.{Same, same, other, same_or, Zero, none, some, zero_or, one_same, one-eq, one-other, count-without, total-without}
use Rattle.model_orders.proofs.Waits.{waits-part}
use Rattle.model_orders.proofs.Readings.{read-ext}
use Rattle.model_orders.specs.Copies.{redirect, child_at, copied, beside}
use Rattle.model_orders.proofs.Beside.{total_ext, beside-total, beside-count, first-ext}
use Rattle.model_orders.proofs.Redirects.{Field, child-in, redirect-count, redirect-length, redirect-fields, redirect-read}

-- p has a field at this place, and y is neither p nor a child
pub record Copyable (g : Graph) (p at y : ℕ) : Type 0 where
  pub has : Field at (g.links p)
  pub apart : p ≡ y → ⊥
  pub fresh : (q : ℕ) → count y (kids g q) ≡ 0

module _ {g : Graph} {p at y : ℕ} (k : Copyable g p at y) where
  -- the child of the field
  abbrev x : ℕ
  x = child_at at (g.links p)

  -- the graph with the copy
  abbrev h : Graph
  h = copied g p at x y

  pub data Node (i : ℕ) : Type 0 where
    parent : i ≡ p → (i ≡ y → ⊥) → h.links i ≡ redirect at y (g.links p) → h.size i ≡ g.size i → Node i
    copy : i ≡ y → (i ≡ p → ⊥) → h.links i ≡ g.links x → h.size i ≡ g.size x → Node i
    old : (i ≡ p → ⊥) → (i ≡ y → ⊥) → h.links i ≡ g.links i → h.size i ≡ g.size i → Node i

  pub node_or : (i : ℕ) → Node i
  unfolding copied
  node_or i = go (same_or i p) (same_or i y)
    where
      go : Same i p → Same i y → Node i
      go (same e _ _) (same f _ _) = absurd (k.apart (sym e ∙ f))
      go (same e b _) (other n c _) = parent e n (rw b) (rw c)
      go (other n b _) (same f c _) = copy f n (rw (b, c)) (rw c)
      go (other n b _) (other m c _) = old n m (rw (b, c)) (rw c)

  child-led : 0 < count x (kids g p)
  child-led = child-in at (g.links p) k.has

  copy_apart : x ≡ y → ⊥
  copy_apart e = omega (arith, rw e at child-led, k.fresh p)

  -- ---- children

  kids-parent : (c : ℕ) → count c (kids h p) + one c x ≡ count c (kids g p) + one c y
  kids-parent c = go (node_or p)
    where
      go : Node p → count c (kids h p) + one c x ≡ count c (kids g p) + one c y
      go (parent _ _ e _) = rw e (redirect-count at y (g.links p) k.has c)
      go (copy _ n _ _) = absurd (n refl)
      go (old n _ _ _) = absurd (n refl)

  kids-copy : (c : ℕ) → count c (kids h y) ≡ count c (kids g x)
  kids-copy c = go (node_or y)
    where
      go : Node y → count c (kids h y) ≡ count c (kids g x)
      go (parent _ n _ _) = absurd (n refl)
      go (copy _ _ e _) = rw e
      go (old _ n _ _) = absurd (n refl)

  kids-old : (q c : ℕ) → (q ≡ p → ⊥) → (q ≡ y → ⊥) → count c (kids h q) ≡ count c (kids g q)
  kids-old q c n m = go (node_or q)
    where
      go : Node q → count c (kids h q) ≡ count c (kids g q)
      go (parent e _ _ _) = absurd (n e)
      go (copy e _ _ _) = absurd (m e)
      go (old _ _ e _) = rw e

  -- what a node leads to: as before, or the copy
  pub kids-less : (q c : ℕ) → (q ≡ y → ⊥) → (c ≡ y → ⊥) → count c (kids h q) ≤ count c (kids g q)
  kids-less q c n m = go (same_or q p)
    where
      go : Same q p → count c (kids h q) ≤ count c (kids g q)
      go (same e _ _) = rw e (omega (arith, kids-parent c, one-other c y m))
      go (other d _ _) = omega (arith, kids-old q c d n)

  -- ---- the nodes to place

  module _ {nodes : List ℕ} {root : ℕ} (r : Rooted g nodes root) (out : count y nodes ≡ 0) (pin : 0 < count p nodes) where
    away : (c : ℕ) → 0 < count c nodes → c ≡ y → ⊥
    away c n e = omega (arith, rw e at n, out)

    pub child-placed : 0 < count x nodes
    unfolding Closed
    child-placed = r.closed p x pin child-led

    waits-old : (c : ℕ) → waits h nodes c + one c x ≡ waits g nodes c + one c y
    unfolding waits Once
    waits-old c =
        omega (
          arith,
          total-without (λ q. count c (kids h q)) p nodes pin,
          total-without (λ q. count c (kids g q)) p nodes pin,
          kids-parent c,
          total_ext (λ q. count c (kids h q)) (λ q. count c (kids g q)) (without p nodes)
              (λ i m. kids-old i c (λ e. omega (arith, rw e at m, count-without p p nodes, one_same p, r.once p)) (away i (omega (arith, count-without i p nodes)))),
        )

    pub waits-new : (c : ℕ) → waits h (beside x y nodes) c + one c x ≡ (waits g nodes c + count c (kids g x)) + one c y
    unfolding waits
    waits-new c = omega (arith, waits-old c, kids-copy c, beside-total x y (λ q. count c (kids h q)) nodes child-placed)

    pub copy-rooted : 1 < waits g nodes x → Rooted h (beside x y nodes) root
    unfolding Once Closed
    copy-rooted two = record {
      once = λ c. each c (same_or c y);
      closed = λ q c a b. down q c a b (same_or q y) (same_or c y);
      root_in = omega (arith, r.root_in, now root);
      root-free = omega (arith, waits-new root, r.root-free, waits-part g x root nodes child-placed, one-other root y (away root r.root_in));
      others = λ c a n. led c a n (same_or c y) (same_or c x);
    }
      where
        now : (c : ℕ) → count c (beside x y nodes) ≡ count c nodes + one c y
        now c = beside-count x y c nodes child-placed

        each : (c : ℕ) → Same c y → count c (beside x y nodes) ≤ 1
        each c (same e _ o) = omega (arith, now c, ap (λ (z : ℕ). count z nodes) e, out)
        each c (other _ _ o) = omega (arith, now c, r.once c)

        down : (q c : ℕ) → 0 < count q (beside x y nodes) → 0 < count c (kids h q) → Same q y → Same c y → 0 < count c (beside x y nodes)
        down q c a b s (same _ _ o) = omega (arith, now c)
        down q c a b (same e _ _) (other m _ _) = omega (arith, now c, r.closed x c child-placed (omega (arith, kids-copy c, rw e at b)))
        down q c a b (other n _ z) (other m _ _) = omega (arith, now c, r.closed q c (omega (arith, now q)) (omega (arith, kids-less q c n m)))

        led : (c : ℕ) → 0 < count c (beside x y nodes) → (c ≡ root → ⊥) → Same c y → Same c x → 0 < waits h (beside x y nodes) c
        led c a n (same e _ o) (same f _ _) = absurd (copy_apart (sym f ∙ e))
        led c a n (same e _ o) (other _ _ z) = omega (arith, waits-new c)
        led c a n (other _ _ o) (same e _ z) = omega (arith, waits-new c, ap (waits g nodes) e)
        led c a n (other _ _ o) (other _ _ z) = omega (arith, waits-new c, r.others c (omega (arith, now c)) n)

  -- ---- parents first

  -- nothing new leads to a node that is not the copy
  still : (c : ℕ) → (c ≡ y → ⊥) → (l : List ℕ) → count y l ≡ 0 → waits g l c ≡ 0 → waits h (beside x y l) c ≡ 0
  unfolding waits total beside count
  still c n [] o w = refl
  still c n (q ∷ l) o w = go (still c n l (omega arith) (omega arith)) (same_or x q)
    where
      less : count c (kids h q) ≤ count c (kids g q)
      less = kids-less q c (λ e. omega (arith, one-eq y q (sym e))) n

      rest : (m : List ℕ) → count y m ≡ 0 → total (λ i. count c (kids g i)) m ≡ 0 → total (λ i. count c (kids h i)) m ≡ 0
      rest [] a b = refl
      rest (i ∷ m) a b = omega (arith, rest m (omega arith) (omega arith), kids-less i c (λ e. omega (arith, one-eq y i (sym e))) n)

      go : total (λ i. count c (kids h i)) (beside x y l) ≡ 0 → Same x q → total (λ i. count c (kids h i)) (pick (eqb x q) (q ∷ y ∷ l) (q ∷ beside x y l)) ≡ 0
      go i (same e b _) = rw b (omega (arith, less, kids-copy c, ap (λ (z : ℕ). count c (kids g z)) e, rest l (omega arith) (omega arith)))
      go i (other _ b _) = rw b (omega (arith, less))

  -- nor to the copy, but from the parent
  unled : (l : List ℕ) → ((q : ℕ) → 0 < count q l → count y (kids h q) ≡ 0) → waits h (y ∷ l) y ≡ 0
  unfolding waits total
  unled l w = omega (arith, kids-copy y, k.fresh x, none_in l w)
    where
      none_in : (m : List ℕ) → ((q : ℕ) → 0 < count q m → count y (kids h q) ≡ 0) → total (λ q. count y (kids h q)) m ≡ 0
      none_in [] w = refl
      none_in (q ∷ m) w = omega (arith, w q (unfold count in omega (arith, one_same q)), none_in m (λ i a. w i (unfold count in omega (arith, a))))

  pub copy-first : (l : List ℕ) → count y l ≡ 0 → 0 < count x l → ParentsFirst g l → ParentsFirst h (beside x y l)
  unfolding beside count ParentsFirst
  copy-first [] o i f = absurd (omega arith)
  copy-first (z ∷ l) o i f = go (copy-first l (omega arith)) (same_or x z)
    where
      zy : z ≡ y → ⊥
      zy e = omega (arith, one-eq y z (sym e))

      top : waits h (beside x y (z ∷ l)) z ≡ 0
      top = still z zy (z ∷ l) o f.0

      go : (0 < count x l → ParentsFirst g l → ParentsFirst h (beside x y l)) → Same x z → ParentsFirst h (pick (eqb x z) (z ∷ y ∷ l) (z ∷ beside x y l))
      go r (other _ b c) = rw b (top2, r (omega arith) f.1)
        where
          top2 : waits h (z ∷ beside x y l) z ≡ 0
          top2 = rw b at top
      go r (same e b _) = rw b (top2, (bare, first-ext g h l plain f.1))
        where
          top2 : waits h (z ∷ y ∷ l) z ≡ 0
          top2 = rw b at top

          -- the parent is before its child
          gone : count p l ≡ 0
          gone = cut (zero_or (count p l))
            where
              cut : Zero (count p l) → count p l ≡ 0
              cut (none a _) = a
              cut (some a _) = absurd (omega (arith, waits-part g p z (z ∷ l) (unfold count in omega (arith, a)), ap (λ (j : ℕ). count j (kids g p)) e, child-led, f.0))

          plain : (q c : ℕ) → 0 < count q l → count c (kids h q) ≡ count c (kids g q)
          plain q c a = kids-old q c (λ j. omega (arith, ap (λ (j : ℕ). count j l) j, gone)) (λ j. omega (arith, ap (λ (j : ℕ). count j l) j, o))

          bare : waits h (y ∷ l) y ≡ 0
          bare = unled l (λ q a. omega (arith, plain q y a, k.fresh q))

  -- ---- a copy is as its original: `origin` gives each node's object

  abbrev from : (ℕ → ℕ) → ℕ → ℕ
  from origin i = pick (eqb i y) (origin x) (origin i)

  from-copy : (origin : ℕ → ℕ) (i : ℕ) → i ≡ y → from origin i ≡ origin x
  from-copy origin i e = rw (eq-eqb i y e)

  from_old : (origin : ℕ → ℕ) (i : ℕ) → (i ≡ y → ⊥) → from origin i ≡ origin i
  from_old origin i n = rw (ne_eqb i y n)

  from-kids : (origin : ℕ → ℕ) (q c : ℕ) → 0 < count c (kids g q) → from origin c ≡ origin c
  from-kids origin q c a = from_old origin c (λ e. omega (arith, rw e at a, k.fresh q))

  pub copy-ranked : (origin : ℕ → ℕ) → Ranked origin g → Ranked (from origin) h
  unfolding Ranked
  copy-ranked origin a q c b = go (same_or q y) (same_or c y) (same_or q p)
    where
      go : Same q y → Same c y → Same q p → from origin c < from origin q
      go (same e _ _) (same f _ _) s = absurd (omega (arith, rw (f, e) at b, kids-copy y, k.fresh x))
      go (same e _ _) (other m _ _) s = rw (from-copy origin q e, from_old origin c m) (a x c (omega (arith, rw e at b, kids-copy c)))
      go (other n _ _) (same f _ _) (same e _ _) = rw (from-copy origin c f, from_old origin q n, e) (a p x child-led)
      go (other n _ _) (same f _ _) (other m _ _) = absurd (omega (arith, rw f at b, kids-old q y m n, k.fresh q))
      go (other n _ _) (other m _ _) s = rw (from_old origin c m, from_old origin q n) (a q c (omega (arith, kids-less q c n m)))

  pub copy-sized : (size origin : ℕ → ℕ) → ((i : ℕ) → g.size i ≡ size (origin i)) → (i : ℕ) → h.size i ≡ size (from origin i)
  copy-sized size origin a i = go (node_or i)
    where
      go : Node i → h.size i ≡ size (from origin i)
      go (parent _ n _ e) = e ∙ a i ∙ ap size (sym (from_old origin i n))
      go (copy f _ _ e) = e ∙ a x ∙ ap size (sym (from-copy origin i f))
      go (old _ n _ e) = e ∙ a i ∙ ap size (sym (from_old origin i n))

  pub copy-linked : (many origin : ℕ → ℕ) → ((i : ℕ) → length (g.links i) ≡ many (origin i)) → (i : ℕ) → length (h.links i) ≡ many (from origin i)
  copy-linked many origin a i = go (node_or i)
    where
      go : Node i → length (h.links i) ≡ many (from origin i)
      go (parent e n l _) = rw (l, from_old origin i n, e) (redirect-length at y (g.links p) ∙ a p)
      go (copy e _ l _) = rw (l, from-copy origin i e) (a x)
      go (old _ n l _) = rw (l, from_old origin i n) (a i)

  pub copy-fields : Fields g → Fields h
  unfolding Fields
  copy-fields a i = go (node_or i)
    where
      go : Node i → FieldsIn 0 (h.size i) (h.links i)
      go (parent e _ l s) = rw (l, s, e) (redirect-fields at y 0 (g.size p) (g.links p) (a p))
      go (copy _ _ l s) = rw (l, s) (a x)
      go (old _ _ l s) = rw (l, s) (a i)

  pub copy-reads : (content : ℕ → List ℕ) (ρ : ℕ → Reading) (origin : ℕ → ℕ) → Reads g (λ i. content (origin i)) (λ i. ρ (origin i))
      → Reads h (λ i. content (from origin i)) (λ i. ρ (from origin i))
  unfolding Reads
  copy-reads content ρ origin a i = go (node_or i)
    where
      -- the readings of a node's children stand
      stand : (q : ℕ) (b : List ℕ) → read_links (λ i. ρ (from origin i)) (g.links q) b ≡ read_links (λ i. ρ (origin i)) (g.links q) b
      stand q b = read-ext _ _ (g.links q) b (λ c m. ap ρ (from-kids origin q c m))

      twin : ρ (from origin y) ≡ ρ (from origin x)
      twin = ap ρ (from-copy origin y refl ∙ sym (from_old origin x copy_apart))

      go : Node i → ρ (from origin i) ≡ read_links (λ i. ρ (from origin i)) (h.links i) (content (from origin i))
      go (parent e n l _) =
          rw (from_old origin i n, l, e) (a p ∙ sym (redirect-read at y (λ i. ρ (from origin i)) (g.links p) twin (content (origin p)) ∙ stand p (content (origin p))))
      go (copy e _ l _) = rw (from-copy origin i e, l) (a x ∙ sym (stand x (content (origin x))))
      go (old _ n l _) = rw (from_old origin i n, l) (a i ∙ sym (stand i (content (origin i))))

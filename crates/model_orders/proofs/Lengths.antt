-- The sum of the sizes of the objects below a root is that of the different readings among the root's and those below it; a table with copies is longer by the readings copied.
use mathlib.Core.Path.{◌≡◌, refl, sym, ap, ap₂, subst, ◌∙◌}
use Prim.Native.Nat.{ℕ, ◌+◌, ◌<◌}
use mathlib.Core.List.Memᴰ
use mathlib.Core.List.{List, [], ◌∷◌, ◌++◌, map, Memᴰ}
use mathlib.Core.Bool.{Bool, true, false, ◌||◌}
use mathlib.Core.Logic.{◌⊎◌, inl, inr}
use native.Mathlib.Omega.{arith}
use lib.ListN.{length, length-map}
use Rattle.lists.specs.Lists.{pick, total}
use Rattle.lists.proofs.Elements.{total-ones}
use Rattle.model_orders.specs.Bag.{count, without}
use Rattle.model_orders.specs.Object.{Link}
use Rattle.model_orders.specs.Graph.{Graph, kids_of, reached, Ranked, Closed, Once, Rooted}
use Rattle.model_orders.specs.Distance.{In, here, there, Path, start, along}
use Rattle.model_orders.specs.Reading.{Reading, bytes, field, reading_size, read_links, Reads, same_reading, below, among, different, Lengthened}
use Rattle.model_orders.specs.Table.{Sized}
use Rattle.model_orders.specs.Copies.{Arrangement, length_of, placed_of}
use Rattle.model_orders.proofs.Bags.{Same, same, other, same_or, one_same, count-without, total-without}
use Rattle.model_orders.proofs.Reach.{reached-rooted}
use Rattle.model_orders.proofs.Distances.{in_path}
use Rattle.model_orders.proofs.SameReading.{reading-equal, reading-self}
use Rattle.model_orders.proofs.Tables.{read-bytes}
use Rattle.model_orders.proofs.Growths.{Base, Grew, grew-length, grew-nodes, copies-reached}

-- ---- among, different

abbrev Has : Reading → List Reading → Type 0
Has r l = Memᴰ r l

pub among-has : (r : Reading) (l : List Reading) → among r l ≡ true → Has r l
unfolding among
among-has r [] e = absurd (let z : ◌≡◌ {A = ℕ} 0 1 = cc in omega arith)
among-has r (s ∷ l) e = go (same_reading r s) refl (among-has r l) e
  where
    go : (b : Bool) → same_reading r s ≡ b → (among r l ≡ true → Has r l) → (b || among r l) ≡ true → Has r (s ∷ l)
    go true f i z = Memᴰ.head (reading-equal r s f)
    go false f i z = Memᴰ.tail (i z)

pub has-among : (r : Reading) (l : List Reading) → Has r l → among r l ≡ true
unfolding among
has-among r [] x' = elim x' [ ]
has-among r (s ∷ l) (Memᴰ.head e) = rw (e, reading-self s)
has-among r (s ∷ l) (Memᴰ.tail m) = rw (has-among r l m) (or-last (same_reading r s))
  where
    or-last : (b : Bool) → (b || true) ≡ true
    or-last true = refl
    or-last false = refl

pub data Apart : List Reading → Type 0 where
  none : Apart []
  more : {r : Reading} {l : List Reading} → (Has r l → ⊥) → Apart l → Apart (r ∷ l)

pub different-has : (s : Reading) (l : List Reading) → Has s l → Has s (different l)
unfolding different
different-has s [] h = elim h [ ]
different-has s (r ∷ l) h = go (among r l) refl (different-has s l) (Memᴰ.cases_cons h)
  where
    go : (b : Bool) → among r l ≡ b → (Has s l → Has s (different l)) → (s ≡ r) ⊎ Has s l → Has s (pick b (different l) (r ∷ different l))
    go true e i (inl f) = i (Memᴰ.cast f (among-has r l e))
    go true e i (inr m) = i m
    go false e i (inl f) = Memᴰ.head f
    go false e i (inr m) = Memᴰ.tail (i m)

pub different-from : (s : Reading) (l : List Reading) → Has s (different l) → Has s l
unfolding different
different-from s [] h = h
different-from s (r ∷ l) h = go (among r l) (different-from s l) h
  where
    go : (b : Bool) → (Has s (different l) → Has s l) → Has s (pick b (different l) (r ∷ different l)) → Has s (r ∷ l)
    go true i m = Memᴰ.tail (i m)
    go false i m = cut (Memᴰ.cases_cons m)
      where
        cut : (s ≡ r) ⊎ Has s (different l) → Has s (r ∷ l)
        cut (inl f) = Memᴰ.head f
        cut (inr k) = Memᴰ.tail (i k)

pub different-apart : (l : List Reading) → Apart (different l)
unfolding different
different-apart [] = none
different-apart (r ∷ l) = go (among r l) refl (different-apart l)
  where
    go : (b : Bool) → among r l ≡ b → Apart (different l) → Apart (pick b (different l) (r ∷ different l))
    go true e i = i
    go false e i = more (λ m. let z : ◌≡◌ {A = Bool} true false = sym (has-among r l (different-from r l m)) ∙ e in let y : ◌≡◌ {A = ℕ} 0 1 = cc in omega arith) i

-- ---- below

pub below-below : (x y r : Reading) → Has y (below r) → Has x (below y) → Has x (below r)
unfolding below
below-below x y (bytes b) h k = absurd (Memᴰ.not-nil h)
below-below x y (field t c r) h k = go (below-below x y c) (below-below x y r) (Memᴰ.append_cases (c ∷ below c) h)
  where
    go : (Has y (below c) → Has x (below y) → Has x (below c)) → (Has y (below r) → Has x (below y) → Has x (below r)) → Has y (c ∷ below c) ⊎ Has y (below r) → Has x ((c ∷ below c) ++ below r)
    go i j (inr m) = Memᴰ.append_right (c ∷ below c) (j m k)
    go i j (inl m) = Memᴰ.append_left (below r) (Memᴰ.tail (cut (Memᴰ.cases_cons m)))
      where
        cut : (y ≡ c) ⊎ Has y (below c) → Has x (below c)
        cut (inl e) = subst (λ (z : Reading). Has x (below z)) e k
        cut (inr n) = i n k

pub link-below : (ρ : ℕ → Reading) (l : Link) (ls : List Link) (b : List ℕ) → In l ls → Has (ρ l.child) (below (read_links ρ ls b))
unfolding below read_links
link-below ρ l [] b x' = elim x' [ ]
link-below ρ l (m ∷ ls) b (here e) = Memᴰ.head (ap (λ (k : Link). ρ k.child) e)
link-below ρ l (m ∷ ls) b (there i) = Memᴰ.append_right (ρ m.child ∷ below (ρ m.child)) (link-below ρ l ls b i)

-- ---- the sum

module _ (g : Graph) (content : ℕ → List ℕ) (ρ : ℕ → Reading) (sized : Sized g content) (reads : Reads g content ρ) where
  pub size-read : (c : ℕ) → reading_size (ρ c) ≡ g.size c
  unfolding Reads Sized
  size-read c = ap (λ (r : Reading). reading_size r) (reads c) ∙ ap length (read-bytes ρ (g.links c) (content c)) ∙ sized c

  pub total-read : (l : List ℕ) → total reading_size (map ρ l) ≡ total g.size l
  unfolding total
  total-read [] = refl
  total-read (x ∷ l) = omega (arith, size-read x, total-read l)

  -- what is below an object's reading is an object's reading
  pub below-object : (nodes : List ℕ) → Closed g nodes → (r : Reading) (ls : List Link) (b : List ℕ) → r ≡ read_links ρ ls b → ((c : ℕ) → 0 < count c (kids_of ls) → 0 < count c nodes)
      → (s : Reading) → Has s (below r) → (c : ℕ) × (0 < count c nodes) × (s ≡ ρ c)
  unfolding below read_links kids_of count Closed Reads
  below-object nodes cl (bytes x) ls b e k s h = absurd (Memᴰ.not-nil h)
  below-object nodes cl (field u c r) [] b e k s h = absurd (let z : ◌≡◌ {A = ℕ} 0 1 = cc in omega arith)
  below-object nodes cl (field u c r) (l ∷ ls) b e k s h =
      let ec : c ≡ ρ l.child = cc in
      let er : r ≡ read_links ρ ls b = cc in
      let kx : 0 < count l.child nodes = k l.child (omega (arith, one_same l.child)) in
      go ec kx (below-object nodes cl c (g.links l.child) (content l.child) (ec ∙ reads l.child) (λ z m. cl l.child z kx m) s)
      (below-object nodes cl r ls b er (λ z m. k z (omega arith)) s) (Memᴰ.append_cases (c ∷ below c) h)
    where
      go : c ≡ ρ l.child → 0 < count l.child nodes → (Has s (below c) → (c : ℕ) × (0 < count c nodes) × (s ≡ ρ c)) → (Has s (below r) → (c : ℕ) × (0 < count c nodes) × (s ≡ ρ c))
          → Has s (c ∷ below c) ⊎ Has s (below r) → (c : ℕ) × (0 < count c nodes) × (s ≡ ρ c)
      go ec kx i j (inr m) = j m
      go ec kx i j (inl m) = cut (Memᴰ.cases_cons m)
        where
          cut : (s ≡ c) ⊎ Has s (below c) → (c : ℕ) × (0 < count c nodes) × (s ≡ ρ c)
          cut (inl f) = (l.child, kx, f ∙ ec)
          cut (inr n) = i n

  path-below : (wt : Link → ℕ) (root : ℕ) {c d : ℕ} → Path g wt root c d → Has (ρ c) (ρ root ∷ below (ρ root))
  unfolding Reads
  path-below wt root (start e _) = Memᴰ.head (ap ρ e)
  path-below wt root (along {p = p} {c = c} l w i e _) = Memᴰ.tail (go (Memᴰ.cases_cons (path-below wt root w)))
    where
      child : Has (ρ l.child) (below (ρ p))
      child = subst (λ (z : Reading). Has (ρ l.child) (below z)) (sym (reads p)) (link-below ρ l (g.links p) (content p) i)

      go : (ρ p ≡ ρ root) ⊎ Has (ρ p) (below (ρ root)) → Has (ρ c) (below (ρ root))
      go (inl f) = Memᴰ.cast (ap ρ e) (subst (λ (z : Reading). Has (ρ l.child) (below z)) f child)
      go (inr m) = Memᴰ.cast (ap ρ e) (below-below (ρ l.child) (ρ p) (ρ root) m child)

  -- objects and different readings, paired off; f counts of an object what m counts of its reading
  pub sums : (f : ℕ → ℕ) (m : Reading → ℕ) → ((i : ℕ) → f i ≡ m (ρ i)) → (ds : List Reading) → Apart ds → (nodes : List ℕ) → Once nodes → ((a b : ℕ) → 0 < count a nodes → 0 < count b nodes → ρ a ≡ ρ b → a ≡ b)
      → ((c : ℕ) → 0 < count c nodes → Has (ρ c) ds) → ((r : Reading) → Has r ds → (c : ℕ) × (0 < count c nodes) × (r ≡ ρ c)) → total f nodes ≡ total m ds
  unfolding total count Once
  sums f m alike [] ap0 [] o inj has b = refl
  sums f m alike [] ap0 (x ∷ nodes) o inj has b = absurd (Memᴰ.not-nil (has x (omega (arith, one_same x))))
  sums f m alike (r ∷ ds) (more n ap1) nodes o inj has b =
      let q = b r (Memᴰ.head refl) in
      omega (
        arith,
        total-without f q.0 nodes q.1,
        alike q.0,
        ap m q.2,
        sums f m alike ds ap1 (without q.0 nodes) (λ c. omega (arith, count-without c q.0 nodes, o c))
            (λ x y h k. inj x y (omega (arith, count-without x q.0 nodes)) (omega (arith, count-without y q.0 nodes))) (fore q) (back q),
      )
    where
      fore : (q : (c : ℕ) × (0 < count c nodes) × (r ≡ ρ c)) → (c : ℕ) → 0 < count c (without q.0 nodes) → Has (ρ c) ds
      fore q c h = cut (Memᴰ.cases_cons (has c (omega (arith, count-without c q.0 nodes))))
        where
          cut : (ρ c ≡ r) ⊎ Has (ρ c) ds → Has (ρ c) ds
          cut (inr m) = m
          cut (inl e) =
              let z : c ≡ q.0 = inj c q.0 (omega (arith, count-without c q.0 nodes)) q.1 (e ∙ q.2) in
              absurd (omega (arith, rw z at h, count-without q.0 q.0 nodes, one_same q.0, o q.0))

      back : (q : (c : ℕ) × (0 < count c nodes) × (r ≡ ρ c)) → (s : Reading) → Has s ds → (c : ℕ) × (0 < count c (without q.0 nodes)) × (s ≡ ρ c)
      back q s h = let t = b s (Memᴰ.tail h) in (t.0, cut t (same_or t.0 q.0), t.2)
        where
          cut : (t : (c : ℕ) × (0 < count c nodes) × (s ≡ ρ c)) → Same t.0 q.0 → 0 < count t.0 (without q.0 nodes)
          cut t (same e _ _) = absurd (n (Memᴰ.cast (q.2 ∙ ap ρ (sym e) ∙ sym t.2) h))
          cut t (other _ _ z) = omega (arith, count-without t.0 q.0 nodes, t.1)

-- the reading of an object to place is the root's or below it
pub placed_below : (rank : ℕ → ℕ) (g : Graph) (content : ℕ → List ℕ) (ρ : ℕ → Reading) (nodes : List ℕ) (root : ℕ) → Ranked rank g → Rooted g nodes root → Sized g content → Reads g content ρ
    → (c : ℕ) → 0 < count c nodes → Has (ρ c) (ρ root ∷ below (ρ root))
placed_below rank g content ρ nodes root y r sized reads c h = path-below g content ρ sized reads (λ l. 0) root (in_path g (λ l. 0) nodes root r rank y c h).1

-- where objects that read differently have different ids, sums over objects to place are those over the different readings
pub sum-different : (rank : ℕ → ℕ) (g : Graph) (content : ℕ → List ℕ) (ρ : ℕ → Reading) (nodes : List ℕ) (root : ℕ) → Ranked rank g → Rooted g nodes root → Sized g content → Reads g content ρ
    → ((a b : ℕ) → 0 < count a nodes → 0 < count b nodes → ρ a ≡ ρ b → a ≡ b) → (f : ℕ → ℕ) (m : Reading → ℕ) → ((i : ℕ) → f i ≡ m (ρ i))
    → total f nodes ≡ total m (different (ρ root ∷ below (ρ root)))
sum-different rank g content ρ nodes root y r sized reads inj f m alike =
    sums g content ρ sized reads f m alike (different (ρ root ∷ below (ρ root))) (different-apart (ρ root ∷ below (ρ root))) nodes r.once inj
    (λ c h. different-has (ρ c) _ (placed_below rank g content ρ nodes root y r sized reads c h))
    (λ s h. from s (Memᴰ.cases_cons (different-from s (ρ root ∷ below (ρ root)) h)))
  where
    from : (s : Reading) → (s ≡ ρ root) ⊎ Has s (below (ρ root)) → (c : ℕ) × (0 < count c nodes) × (s ≡ ρ c)
    from s (inl e) = (root, r.root_in, e)
    from s (inr m) = below-object g content ρ sized reads nodes r.closed (ρ root) (g.links root) (content root) (unfold Reads in reads root) (unfold Closed in λ c k. r.closed root c r.root_in k) s m

-- ---- with copies

-- what holds of the reading of each object of a list
mapped_in : (ρ : ℕ → Reading) (l : List ℕ) (t : List Reading) → ((i : ℕ) → 0 < count i l → Memᴰ (ρ i) t) → (r : Reading) → Memᴰ r (map ρ l) → Memᴰ r t
unfolding count
mapped_in ρ [] t h r m = absurd (Memᴰ.not-nil m)
mapped_in ρ (x ∷ l) t h r m = go (mapped_in ρ l t (λ i k. h i (omega arith)) r) (Memᴰ.cases_cons m)
  where
    go : (Memᴰ r (map ρ l) → Memᴰ r t) → (r ≡ ρ x) ⊎ Memᴰ r (map ρ l) → Memᴰ r t
    go i (inl e) = Memᴰ.cast e (h x (omega (arith, one_same x)))
    go i (inr n) = i n

-- the table's length and how many objects it has, where reached objects that read the same are the same
pub lengthened : {g : Graph} {content : ℕ → List ℕ} {ρ : ℕ → Reading} {n root : ℕ} → Base g content ρ n → (c : Arrangement) → Grew g root c.grown
    → ((a b : ℕ) → 0 < count a (reached g root) → 0 < count b (reached g root) → ρ a ≡ ρ b → a ≡ b) → Lengthened (ρ root) (length_of c) (length c.grown.copies) (placed_of c)
lengthened {g} {content} {ρ} {n} {root} base c v inj =
    let y = base.acyclic in
    let r = reached-rooted g root y in
    let sums = sum-different (λ i. i) g content ρ (reached g root) root y r base.sized base.reads inj in
    let ones = sums (λ i. 1) (λ i. 1) (λ i. refl) in
    record {
      made = map ρ c.grown.copies;
      each = mapped_in ρ c.grown.copies _ (λ i x. placed_below (λ i. i) g content ρ (reached g root) root y r base.sized base.reads i (copies-reached v i x));
      count = length-map c.grown.copies ρ;
      sum =
          grew-length v
          ∙ ap₂ ◌+◌ (sums g.size reading_size (λ i. sym (size-read g content ρ base.sized base.reads i)))
          (sym (total-read g content ρ base.sized base.reads c.grown.copies));
      objects = omega (arith, grew-nodes v, ones, total-ones (reached g root), total-ones (different (ρ root ∷ below (ρ root))));
    }

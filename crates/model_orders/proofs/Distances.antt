-- A distance is the least sum of weights over all paths from the root.
use mathlib.Core.Path.{◌≡◌, refl, ap, ◌∙◌}
use Prim.Native.Nat.{ℕ, zero, suc, ◌+◌, min, ◌≤◌, ◌<◌}
use mathlib.Core.List.{List, [], ◌∷◌}
use native.Mathlib.Omega.{arith}
use native.Mathlib.Decide.{dec_le}
use lib.ListN.{length, get_or, set, replicate, length-set, length-replicate}
use lib.Seq.{get_or-set_same, get_or-set_other}
use Rattle.lists.specs.Lists.{total}
use Rattle.model_orders.specs.Bag.{count}
use Rattle.model_orders.specs.Object.{Link}
use Rattle.model_orders.specs.Graph.{Graph, kids, kids_of, waits, reached, Ranked, Acyclic, Closed, ParentsFirst, Rooted}
use Rattle.model_orders.specs.Distance.{distance_along, In, here, there, Path, start, along, Least, weight, relax, relax_all, distances_by, beyond, distance}
use Rattle.model_orders.specs.Table.{before}
use Rattle.model_orders.proofs.Bags.{Same, same, other, same_or, one_same, one-eq, total-from, top_of}
use Rattle.model_orders.proofs.Before.{before-behind, before-most}
use Rattle.model_orders.proofs.Reach.{reached-rooted, reached-first, reached-low}

pub in-kids : (l : Link) (ls : List Link) → In l ls → 0 < count l.child (kids_of ls)
unfolding kids_of count
in-kids l [] x' = elim x' [ ]
in-kids l (m ∷ ls) (here e) = let f : l.child ≡ m.child = ap (λ (x : Link). x.child) e in rw f (omega (arith, one_same m.child))
in-kids l (m ∷ ls) (there i) = omega (arith, in-kids l ls i)

pub kid-link : (c : ℕ) (ls : List Link) → 0 < count c (kids_of ls) → (l : Link) × In l ls × (c ≡ l.child)
unfolding kids_of count
kid-link c [] h = absurd (omega arith)
kid-link c (m ∷ ls) h = go (kid-link c ls) (same_or c m.child)
  where
    go : (0 < count c (kids_of ls) → (l : Link) × In l ls × (c ≡ l.child)) → Same c m.child → (l : Link) × In l (m ∷ ls) × (c ≡ l.child)
    go r (same e _ _) = (m, here refl, e)
    go r (other _ _ z) = let s = r (omega arith) in (s.0, there s.1, s.2)

-- there is one least sum
pub least-one : {g : Graph} {wt : Link → ℕ} {root c d e : ℕ} → Least g wt root c d → Least g wt root c e → d ≡ e
least-one {d = d} {e = e} u v = omega (arith, u.least e v.path, v.least d u.path)

-- ---- the nodes that a path leads to are the nodes to place

module _ (g : Graph) (wt : Link → ℕ) (nodes : List ℕ) (root : ℕ) (r : Rooted g nodes root) where
  pub path-in : {c d : ℕ} → Path g wt root c d → 0 < count c nodes
  unfolding Closed
  path-in (start e _) = rw e r.root_in
  path-in (along {p = p} l w i e _) = rw e (r.closed p l.child (path-in w) (in-kids l (g.links p) i))

  pub in-path-from : (rank : ℕ → ℕ) → Ranked rank g → (m : ℕ) → ((c : ℕ) → 0 < count c nodes → rank c ≤ m)
      → (n c : ℕ) → m ≤ rank c + n → 0 < count c nodes → (d : ℕ) × Path g wt root c d
  unfolding waits Ranked
  in-path-from rank y m top zero c b h = go (same_or c root)
    where
      go : Same c root → (d : ℕ) × Path g wt root c d
      go (same e _ _) = (0, start e refl)
      go (other n _ _) =
          let s = total-from (λ p. count c (kids g p)) nodes (r.others c h n) in
          absurd (omega (arith, y s.0 c s.2, top s.0 s.1))
  in-path-from rank y m top (suc n) c b h = go (in-path-from rank y m top n) (same_or c root)
    where
      go : ((c : ℕ) → m ≤ rank c + n → 0 < count c nodes → (d : ℕ) × Path g wt root c d) → Same c root → (d : ℕ) × Path g wt root c d
      go i (same e _ _) = (0, start e refl)
      go i (other k _ _) =
          let s = total-from (λ p. count c (kids g p)) nodes (r.others c h k) in
          let t = i s.0 (omega (arith, y s.0 c s.2)) s.1 in
          let u = kid-link c (g.links s.0) s.2 in
          (t.0 + wt u.0, along u.0 t.1 u.1 u.2 refl)

  pub in_path : (rank : ℕ → ℕ) → Ranked rank g → (c : ℕ) → 0 < count c nodes → (d : ℕ) × Path g wt root c d
  in_path rank y c h = go nodes refl
    where
      go : (l : List ℕ) → nodes ≡ l → (d : ℕ) × Path g wt root c d
      go [] e = absurd (let f = rw e at h in unfold count in omega arith)
      go (b ∷ l) e =
          let t = top_of rank b l in
          in-path-from rank y (rank t.0) (λ c k. t.1.above c (rw e at k)) (rank t.0) c (omega arith) h

-- ---- one node's links

module _ (far : ℕ) (wt : Link → ℕ) where
  pub relax-length : (d : ℕ) (ls : List Link) (ds : List ℕ) → length (relax far wt d ls ds) ≡ length ds
  unfolding relax
  relax-length d [] ds = refl
  relax-length d (l ∷ ls) ds = relax-length d ls _ ∙ length-set ds l.child _

  -- one link
  step : ℕ → Link → List ℕ → List ℕ
  step d l ds = set ds l.child (min (get_or ds l.child far) (d + wt l))

  step-here : (d : ℕ) (l : Link) (ds : List ℕ) (c : ℕ) → l.child < length ds → c ≡ l.child → get_or (step d l ds) c far ≡ min (get_or ds c far) (d + wt l)
  unfolding step
  step-here d l ds c h e = rw e (get_or-set_same ds l.child _ far h)

  step_other : (d : ℕ) (l : Link) (ds : List ℕ) (c : ℕ) → (c ≡ l.child → ⊥) → get_or (step d l ds) c far ≡ get_or ds c far
  unfolding step
  step_other d l ds c n = get_or-set_other ds l.child c _ far n

  step_down : (d : ℕ) (l : Link) (ds : List ℕ) (c : ℕ) → l.child < length ds → get_or (step d l ds) c far ≤ get_or ds c far
  step_down d l ds c h = go (same_or c l.child)
    where
      go : Same c l.child → get_or (step d l ds) c far ≤ get_or ds c far
      go (same e _ _) = omega (arith, step-here d l ds c h e)
      go (other n _ _) = omega (arith, step_other d l ds c n)

  -- every link of ls leads below n
  unfoldable pub Low : ℕ → List Link → Type 0
  Low n ls = (c : ℕ) → 0 < count c (kids_of ls) → c < n

  low-head : (n : ℕ) (l : Link) (ls : List Link) → Low n (l ∷ ls) → l.child < n
  unfolding Low kids_of count
  low-head n l ls h = h l.child (omega (arith, one_same l.child))

  low-tail : (d : ℕ) (l : Link) (ls : List Link) (ds : List ℕ) → Low (length ds) (l ∷ ls) → Low (length (step d l ds)) ls
  unfolding Low kids_of count step
  low-tail d l ls ds h c k = rw length-set (h c (omega arith))

  pub relax-down : (d : ℕ) (ls : List Link) (ds : List ℕ) (c : ℕ) → Low (length ds) ls → get_or (relax far wt d ls ds) c far ≤ get_or ds c far
  unfolding relax step
  relax-down d [] ds c h = omega arith
  relax-down d (l ∷ ls) ds c h = omega (arith, relax-down d ls (step d l ds) c (low-tail d l ls ds h), step_down d l ds c (low-head (length ds) l ls h))

  pub relax-other : (d : ℕ) (ls : List Link) (ds : List ℕ) (c : ℕ) → count c (kids_of ls) ≡ 0 → get_or (relax far wt d ls ds) c far ≡ get_or ds c far
  unfolding relax step count kids_of
  relax-other d [] ds c h = refl
  relax-other d (l ∷ ls) ds c h = relax-other d ls (step d l ds) c (omega arith) ∙ step_other d l ds c (λ e. absurd (omega (arith, one-eq c l.child e)))

  pub relax-in : (d : ℕ) (l : Link) (ls : List Link) (ds : List ℕ) → Low (length ds) ls → In l ls → get_or (relax far wt d ls ds) l.child far ≤ d + wt l
  unfolding relax step
  relax-in d l [] ds h x'' = elim x'' [ ]
  relax-in d l (m ∷ ls) ds h (here e) =
      rw e (omega (arith, relax-down d ls (step d m ds) m.child (low-tail d m ls ds h), step-here d m ds m.child (low-head (length ds) m ls h) refl))
  relax-in d l (m ∷ ls) ds h (there i) = relax-in d l ls (step d m ds) (low-tail d m ls ds h) i

  module _ (g : Graph) (root : ℕ) where
    -- every known sum is a path's
    unfoldable pub Known : List ℕ → Type 0
    Known ds = (c : ℕ) → get_or ds c far < far → Path g wt root c (get_or ds c far)

    pub relax-known : (p d : ℕ) → (d < far → Path g wt root p d) → (ls : List Link) (ds : List ℕ) → ((l : Link) → In l ls → In l (g.links p)) → Low (length ds) ls
        → Known ds → Known (relax far wt d ls ds)
    unfolding relax step Known
    relax-known p d w [] ds i h k = k
    relax-known p d w (l ∷ ls) ds i h k = relax-known p d w ls (step d l ds) (λ m j. i m (there j)) (low-tail d l ls ds h) (λ c. go c (same_or c l.child))
      where
        go : (c : ℕ) → Same c l.child → get_or (step d l ds) c far < far → Path g wt root c (get_or (step d l ds) c far)
        go c (other n _ _) b = rw (step_other d l ds c n) (k c (rw (step_other d l ds c n) at b))
        go c (same e _ _) b = rw sh (cut (dec_le (get_or ds c far) (d + wt l)) (rw sh at b))
          where
            sh : get_or (step d l ds) c far ≡ min (get_or ds c far) (d + wt l)
            sh = step-here d l ds c (low-head (length ds) l ls h) e

            cut : Dec (get_or ds c far ≤ d + wt l) → min (get_or ds c far) (d + wt l) < far → Path g wt root c (min (get_or ds c far) (d + wt l))
            cut (yes q) z = let m : min (get_or ds c far) (d + wt l) ≡ get_or ds c far = omega arith in rw m (k c (omega arith))
            cut (no q) z = let m : min (get_or ds c far) (d + wt l) ≡ d + wt l = omega arith in rw m (along l (w (omega arith)) (i l (here refl)) e refl)

-- ---- all nodes in turn

module _ (far : ℕ) (wt : Link → ℕ) (g : Graph) where
  -- every node of o leads below n
  unfoldable pub Under : ℕ → List ℕ → Type 0
  Under n o = (p : ℕ) → 0 < count p o → Low far wt n (g.links p)

  under-head : (n x : ℕ) (o : List ℕ) → Under n (x ∷ o) → Low far wt n (g.links x)
  unfolding Under count
  under-head n x o h = h x (omega (arith, one_same x))

  under_tail : (x d : ℕ) (o : List ℕ) (ds : List ℕ) → Under (length ds) (x ∷ o) → Under (length (relax far wt d (g.links x) ds)) o
  unfolding Under count
  under_tail x d o ds h p k = rw relax-length (h p (omega arith))

  pub all-length : (o ds : List ℕ) → length (relax_all far wt g o ds) ≡ length ds
  unfolding relax_all
  all-length [] ds = refl
  all-length (x ∷ o) ds = all-length o _ ∙ relax-length far wt _ (g.links x) ds

  pub all-down : (o ds : List ℕ) (c : ℕ) → Under (length ds) o → get_or (relax_all far wt g o ds) c far ≤ get_or ds c far
  unfolding relax_all
  all-down [] ds c h = omega arith
  all-down (x ∷ o) ds c h =
      omega (
        arith,
        all-down o (relax far wt (get_or ds x far) (g.links x) ds) c (under_tail x (get_or ds x far) o ds h),
        relax-down far wt (get_or ds x far) (g.links x) ds c (under-head (length ds) x o h),
      )

  pub all-other : (o ds : List ℕ) (c : ℕ) → waits g o c ≡ 0 → get_or (relax_all far wt g o ds) c far ≡ get_or ds c far
  unfolding relax_all waits total
  all-other [] ds c h = refl
  all-other (x ∷ o) ds c h = all-other o _ c (omega arith) ∙ relax-other far wt (get_or ds x far) (g.links x) ds c (omega arith)

  pub all_in : (o ds : List ℕ) → ParentsFirst g o → Under (length ds) o → (p : ℕ) → 0 < count p o → (l : Link) → In l (g.links p)
      → get_or (relax_all far wt g o ds) l.child far ≤ get_or (relax_all far wt g o ds) p far + wt l
  unfolding ParentsFirst count relax_all
  all_in [] ds f h p k l i = absurd (omega arith)
  all_in (x ∷ o) ds f h p k l i = go (all_in o (relax far wt (get_or ds x far) (g.links x) ds) f.1 (under_tail x (get_or ds x far) o ds h) p) (same_or p x)
    where
      go : (0 < count p o → (l : Link) → In l (g.links p)
          → get_or (relax_all far wt g o (relax far wt (get_or ds x far) (g.links x) ds)) l.child far ≤ get_or (relax_all far wt g o (relax far wt (get_or ds x far) (g.links x) ds)) p far + wt l)
          → Same p x → get_or (relax_all far wt g (x ∷ o) ds) l.child far ≤ get_or (relax_all far wt g (x ∷ o) ds) p far + wt l
      go r (same e _ _) = first (rw e at i)
        where
          first : In l (g.links x) → get_or (relax_all far wt g (x ∷ o) ds) l.child far ≤ get_or (relax_all far wt g (x ∷ o) ds) p far + wt l
          first j = rw e (omega (
            arith,
            all-other (x ∷ o) ds x f.0,
            all-down o (relax far wt (get_or ds x far) (g.links x) ds) l.child (under_tail x (get_or ds x far) o ds h),
            relax-in far wt (get_or ds x far) l (g.links x) ds (under-head (length ds) x o h) j,
          ))
      go r (other _ _ z) = r (omega arith) l i

  pub all_known : (root : ℕ) (o ds : List ℕ) → Under (length ds) o → Known far wt g root ds → Known far wt g root (relax_all far wt g o ds)
  unfolding relax_all
  all_known root [] ds h k = k
  all_known root (x ∷ o) ds h k =
      all_known root o _ (under_tail x (get_or ds x far) o ds h)
      (relax-known far wt g root x (get_or ds x far) (known x k) (g.links x) ds (λ l i. i) (under-head (length ds) x o h) k)
    where
      known : (x : ℕ) → Known far wt g root ds → get_or ds x far < far → Path g wt root x (get_or ds x far)
      known x k = unfold Known in k x

-- ---- the theorem: what the pass leaves is the least sum, where no sum is as far as `far`

module _ (far : ℕ) (wt : Link → ℕ) (g : Graph) (nodes : List ℕ) (root : ℕ) (r : Rooted g nodes root)
    (o : List ℕ) (bag : (c : ℕ) → count c o ≡ count c nodes) (first : ParentsFirst g o) (n : ℕ) (low : (c : ℕ) → 0 < count c nodes → c < n) where
  under : Under far wt g n o
  unfolding Under Low
  under p h c k = low c (unfold Closed in r.closed p c (omega (arith, bag p)) k)

  begin : List ℕ
  begin = set (replicate n far) root 0

  begin-length : length begin ≡ n
  unfolding begin
  begin-length = length-set (replicate n far) root 0 ∙ length-replicate n far

  begin-root : get_or begin root far ≡ 0
  unfolding begin
  begin-root = get_or-set_same (replicate n far) root 0 far (rw length-replicate (low root r.root_in))

  begin-other : (c : ℕ) → (c ≡ root → ⊥) → get_or begin c far ≡ far
  unfolding begin
  begin-other c h = get_or-set_other (replicate n far) root c 0 far h ∙ far-all n c
    where
      far-all : (n c : ℕ) → get_or (replicate n far) c far ≡ far
      far-all zero c = refl
      far-all (suc n) zero = refl
      far-all (suc n) (suc c) = far-all n c

  begin-known : Known far wt g root begin
  unfolding Known
  begin-known c h = go (same_or c root)
    where
      go : Same c root → Path g wt root c (get_or begin c far)
      go (same e _ _) = start e (ap (λ (j : ℕ). get_or begin j far) e ∙ begin-root)
      go (other k _ _) = absurd (omega (arith, begin-other c k))

  begin-under : Under far wt g (length begin) o
  begin-under = rw begin-length under

  -- at most every path's sum
  pub distance-low : {c d : ℕ} → Path g wt root c d → get_or (distances_by far wt g o n root) c far ≤ d
  unfolding distances_by begin
  distance-low (start e z) = rw e (omega (arith, all-down far wt g o begin root begin-under, begin-root))
  distance-low (along {p = p} l w i e z) =
      rw e (omega (arith, distance-low w, all_in far wt g o begin first begin-under p (omega (arith, bag p, path-in g wt nodes root r w)) l i))

  -- and one path's
  pub distance-path : (c : ℕ) → get_or (distances_by far wt g o n root) c far < far → Path g wt root c (get_or (distances_by far wt g o n root) c far)
  unfolding distances_by begin Known
  distance-path c h = all_known far wt g root o begin begin-under begin-known c h

  pub distance_least : (rank : ℕ → ℕ) → Ranked rank g → ((c d : ℕ) → Path g wt root c d → d < far)
      → (c : ℕ) → 0 < count c nodes → Least g wt root c (get_or (distances_by far wt g o n root) c far)
  distance_least rank y bound c h = record { path = distance-path c (omega (arith, distance-low w.1, bound c w.0 w.1)); least = λ e v. distance-low v }
    where
      w : (d : ℕ) × Path g wt root c d
      w = in_path g wt nodes root r rank y c h

-- ---- no path's sum is as far as `beyond`

module _ (wt : Link → ℕ) (g : Graph) (nodes : List ℕ) (root : ℕ) (r : Rooted g nodes root)
    (o : List ℕ) (bag : (c : ℕ) → count c o ≡ count c nodes) (first : ParentsFirst g o) where
  heavy : ℕ → ℕ
  heavy p = total wt (g.links p)

  link-heavy : (l : Link) (ls : List Link) → In l ls → wt l ≤ total wt ls
  unfolding total
  link-heavy l [] x' = elim x' [ ]
  link-heavy l (m ∷ ls) (here e) = let f : wt l ≡ wt m = ap wt e in omega arith
  link-heavy l (m ∷ ls) (there i) = omega (arith, link-heavy l ls i)

  path-before : {c d : ℕ} → Path g wt root c d → d ≤ before heavy o c
  unfolding heavy
  path-before (start e z) = omega arith
  path-before (along {p = p} l v i e z) =
      rw (e, z) (omega (
        arith,
        path-before v,
        link-heavy l (g.links p) i,
        before-behind heavy g o first p l.child (omega (arith, bag p, path-in g wt nodes root r v)) (in-kids l (g.links p) i),
      ))

  pub path-near : (c d : ℕ) → Path g wt root c d → d < beyond wt g o
  unfolding beyond heavy
  path-near c d v = omega (arith, path-before v, before-most heavy o c)

-- ---- the theorem

pub distance-is-least : (g : Graph) (root : ℕ) → Acyclic g → (c : ℕ) → 0 < count c (reached g root) → Least g (weight g) root c (distance g root c)
unfolding distance distance_along
distance-is-least g root y c h =
    let o = reached g root in
    let r = reached-rooted g root y in
    distance_least (beyond (weight g) g o) (weight g) g o root r o (λ c. refl) (reached-first g y root) (suc root) (reached-low g root) (λ i. i) y
    (path-near (weight g) g o root r o (λ c. refl) (reached-first g y root)) c h

-- what is reached is what a path leads to
pub reached-path : (g : Graph) (root : ℕ) → Acyclic g → (c : ℕ) → 0 < count c (reached g root) → (d : ℕ) × Path g (weight g) root c d
reached-path g root y c h = in_path g (weight g) (reached g root) root (reached-rooted g root y) (λ i. i) y c h

pub path-reached : (g : Graph) (root : ℕ) → Acyclic g → {c d : ℕ} → Path g (weight g) root c d → 0 < count c (reached g root)
path-reached g root y v = path-in g (weight g) (reached g root) root (reached-rooted g root y) v

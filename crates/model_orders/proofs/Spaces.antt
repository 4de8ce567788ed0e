-- The numbers of spaces: one for one space, 0 for space 0, and the rest from 1 by the earliest member in the order.
use mathlib.Core.Path.{◌≡◌, refl, sym, ap, ◌∙◌}
use Prim.Native.Nat.{ℕ, ◌≤◌, ◌<◌}
use mathlib.Core.List.{List, [], ◌∷◌, map}
use mathlib.Core.Bool.{true}
use mathlib.Core.Logic.{◌⊎◌, inl, inr}
use native.Mathlib.Omega.{arith}
use native.Mathlib.Decide.{dec_le}
use lib.ListN.{length, get_or, length-map, get_or-eq_default}
use lib.Dec.{eqb}
use borrow.Author.Tests.{ne_eqb}
use Rattle.lists.specs.Lists.{pick}
use Rattle.model_orders.specs.Bag.{count}
use Rattle.model_orders.specs.Graph.{Graph, reached, Closed, ParentsFirst, Rooted, Ranked, Acyclic}
use Rattle.model_orders.specs.Order.{order_of, order_by}
use Rattle.model_orders.specs.Distance.{distance, distance_order}
use Rattle.model_orders.specs.Labels.{join, begun, Settled}
use Rattle.model_orders.specs.Space.{Near, first, Tied, Joined, alone, down, up, Together, within, joined, Numbers, narrow_kids, near, spot, own_label, join_kids, join_all, labels_by, labels, space_of, Sorted}
use Rattle.model_orders.proofs.Bags.{Same, same, other, same_or, Zero, none, some, zero_or, one_same, count-here}
use Rattle.model_orders.proofs.Reach.{reached-rooted}
use Rattle.model_orders.proofs.Orders.{order-counts, order-first}
use Rattle.model_orders.proofs.SameNodes.{rooted-same}
use Rattle.model_orders.proofs.Labels.{Alike, merge-length, join-settled, join-joins, join-same, join-zero, join-known, number_at, number-rises, number_same, same_number, number-full}
use Rattle.model_orders.proofs.Spots.{map_at, spot_in, spot-at, count_at, at-spot}
use Rattle.model_orders.proofs.Near.{narrow-counted, counted-narrow, narrow-kid, counted-near, near-counted, near-placed}
use Rattle.model_orders.proofs.Together.{together-on, together-back, together-near, together-joined}

module _ (g : Graph) (o : List ℕ) (root : ℕ) (s : Sorted g o root) where
  abbrev marks : List ℕ
  marks = near g o root

  near-not : {x : ℕ} → count x marks ≡ 0 → Near g root x → ⊥
  near-not e n = omega (arith, near-counted g o root s n)

  not-near : {x : ℕ} → (Near g root x → ⊥) → count x marks ≡ 0
  not-near {x} h = go (zero_or (count x marks))
    where
      go : Zero (count x marks) → count x marks ≡ 0
      go (none e _) = e
      go (some k _) = absurd (h (counted-near g o root x k))

  pub root-first : get_or o 0 0 ≡ root
  root-first = go o s.rooted s.first
    where
      go : (l : List ℕ) → Rooted g l root → ParentsFirst g l → get_or l 0 0 ≡ root
      go [] r f = absurd (empty r.root_in)
        where
          empty : 0 < count root [] → ⊥
          empty h = unfold count in omega (arith, h)
      go (x ∷ l) r f = cut (same_or x root)
        where
          cut : Same x root → x ≡ root
          cut (same e _ _) = e
          cut (other d _ _) = absurd (unfold ParentsFirst in omega (arith, f.0, r.others x (count-here x l) d))

  -- ---- whatever each tie's joining keeps, all keep

  module _ (P : List ℕ → Type 0) (step : (x y : ℕ) → Tied g o root x y → (t : List ℕ) → P t → P (join (spot o x) (spot o y) t)) where
    kids-keep : (p : ℕ) → 0 < count p o → count p marks ≡ 0 → (cs : List ℕ) → ((c : ℕ) → 0 < count c cs → 0 < count c (narrow_kids g p)) → (t : List ℕ) → P t
        → P (join_kids o marks p cs t)
    unfolding join_kids count
    kids-keep p h z [] w t q = q
    kids-keep p h z (c ∷ cs) w t q = kids-keep p h z cs (λ d k. w d (omega arith)) _ (go (zero_or (count c marks)))
      where
        go : Zero (count c marks) → P (pick (eqb (count c marks) 0) (join (spot o p) (spot o c) t) t)
        go (some _ b) = rw b q
        go (none e b) = rw b (step p c tied t q)
          where
            k : 0 < count c (narrow_kids g p)
            k = w c (omega (arith, one_same c))

            tied : Tied g o root p c
            tied =
                record {
                  from = h;
                  to = unfold Closed in s.rooted.closed p c h (narrow-kid g p c k);
                  far = near-not z;
                  away = near-not e;
                  narrow = counted-narrow g p c k;
                }

    all_keep : (ps : List ℕ) → ((p : ℕ) → 0 < count p ps → 0 < count p o) → (t : List ℕ) → P t → P (join_all g o marks ps t)
    unfolding join_all count
    all_keep [] w t q = q
    all_keep (p ∷ ps) w t q = all_keep ps (λ d k. w d (omega arith)) _ (go (zero_or (count p marks)))
      where
        go : Zero (count p marks) → P (pick (eqb (count p marks) 0) (join_kids o marks p (narrow_kids g p) t) t)
        go (some _ b) = rw b q
        go (none e b) = rw b (kids-keep p (w p (omega (arith, one_same p))) e (narrow_kids g p) (λ c k. k) t q)

  -- ---- those that are tied have one label

  module _ (x y : ℕ) (d : Tied g o root x y) where
    abbrev Level : List ℕ → Type 0
    Level t = get_or t (spot o x) 0 ≡ get_or t (spot o y) 0

    level-step : (u v : ℕ) → Tied g o root u v → (t : List ℕ) → Level t → Level (join (spot o u) (spot o v) t)
    level-step u v _ t e = join-same (spot o u) (spot o v) t (spot o x) (spot o y) e

    kids-tie : (cs : List ℕ) → ((c : ℕ) → 0 < count c cs → 0 < count c (narrow_kids g x)) → 0 < count y cs → (t : List ℕ) → Level (join_kids o marks x cs t)
    unfolding join_kids count
    kids-tie [] w h t = absurd (omega arith)
    kids-tie (c ∷ cs) w h t = go (kids-tie cs (λ e k. w e (omega arith))) (same_or y c)
      where
        go : (0 < count y cs → (t : List ℕ) → Level (join_kids o marks x cs t)) → Same y c
            → Level (join_kids o marks x cs (pick (eqb (count c marks) 0) (join (spot o x) (spot o c) t) t))
        go r (other _ _ z) = r (omega arith) _
        go r (same e _ _) =
            let f : eqb (count c marks) 0 ≡ true = rw (← e, not-near d.away) in
            rw (f, ← e)
            (kids-keep Level level-step x d.from (not-near d.far) cs (λ v k. w v (omega arith)) (join (spot o x) (spot o y) t)
            (join-joins (spot o x) (spot o y) t))

    all-tie : (ps : List ℕ) → ((p : ℕ) → 0 < count p ps → 0 < count p o) → 0 < count x ps → (t : List ℕ) → Level (join_all g o marks ps t)
    unfolding join_all count
    all-tie [] w h t = absurd (omega arith)
    all-tie (p ∷ ps) w h t = go (all-tie ps (λ e k. w e (omega arith))) (same_or x p)
      where
        go : (0 < count x ps → (t : List ℕ) → Level (join_all g o marks ps t)) → Same x p
            → Level (join_all g o marks ps (pick (eqb (count p marks) 0) (join_kids o marks p (narrow_kids g p) t) t))
        go r (other _ _ z) = r (omega arith) _
        go r (same e _ _) =
            let f : eqb (count p marks) 0 ≡ true = rw (← e, not-near d.far) in
            rw (f, ← e)
            (all_keep Level level-step ps (λ v k. w v (omega arith)) (join_kids o marks x (narrow_kids g x) t)
            (kids-tie (narrow_kids g x) (λ c k. k) (narrow-counted g d.narrow) t))

  -- ---- the labels at first

  abbrev own : List ℕ
  own = map (own_label o marks) o

  own-length : length own ≡ length o
  own-length = length-map o (own_label o marks)

  data Own (i : ℕ) : Type 0 where
    self : count (get_or o i 0) marks ≡ 0 → get_or own i 0 ≡ i → Own i
    nought : 0 < count (get_or o i 0) marks → get_or own i 0 ≡ 0 → Own i

  own_or : (i : ℕ) → i < length o → Own i
  own_or i h = go (zero_or (count (get_or o i 0) marks))
    where
      go : Zero (count (get_or o i 0) marks) → Own i
      go (none e b) = self e (map_at (own_label o marks) o i h ∙ rw b (at-spot o s.rooted.once i h))
      go (some e b) = nought e (map_at (own_label o marks) o i h ∙ rw b)

  own-low : (i : ℕ) → (get_or own i 0 ≡ i) ⊎ (get_or own i 0 ≡ 0)
  own-low i = go (dec_le (length o) i)
    where
      go : Dec (length o ≤ i) → (get_or own i 0 ≡ i) ⊎ (get_or own i 0 ≡ 0)
      go (yes h) = inr (get_or-eq_default own 0 (rw own-length h))
      go (no h) = cut (own_or i (omega (arith, h)))
        where
          cut : Own i → (get_or own i 0 ≡ i) ⊎ (get_or own i 0 ≡ 0)
          cut (self _ e) = inl e
          cut (nought _ e) = inr e

  pub own-settled : Settled (map (own_label o (near g o root)) o)
  own-settled = record { low = λ i. low i (own-low i); own = λ i. same-own i (own-low i) }
    where
      low : (i : ℕ) → (get_or own i 0 ≡ i) ⊎ (get_or own i 0 ≡ 0) → get_or own i 0 ≤ i
      low i (inl e) = omega arith
      low i (inr e) = omega arith

      same-own : (i : ℕ) → (get_or own i 0 ≡ i) ⊎ (get_or own i 0 ≡ 0) → get_or own (get_or own i 0) 0 ≡ get_or own i 0
      same-own i (inl e) = rw (e, e)
      same-own i (inr e) = rw e (omega (arith, low 0 (own-low 0)))

  -- ---- each position belongs together with its label, and has the label of all that it is tied to

  abbrev With : ℕ → ℕ → Type 0
  With i j = Together g o root (get_or o i 0) (get_or o j 0)

  with-alike : Alike With
  with-alike = record { back = λ i j r. together-back g o root r; on = λ i j k r q. together-on g o root r q }

  abbrev Known : List ℕ → Type 0
  Known t = (length t ≡ length o) × ((i : ℕ) → i < length o → With i (get_or t i 0))

  own-known : Known own
  own-known = (own-length, λ i h. go i (own_or i h))
    where
      go : (i : ℕ) → Own i → With i (get_or own i 0)
      go i (self _ e) = rw e (joined (alone refl))
      go i (nought c e) = rw (e, root-first) (within (counted-near g o root (get_or o i 0) c) (first refl))

  known_step : (x y : ℕ) → Tied g o root x y → (t : List ℕ) → Known t → Known (join (spot o x) (spot o y) t)
  known_step x y d t k =
      let r : With (spot o x) (spot o y) = rw (spot-at o x d.from, spot-at o y d.to) (joined (down (alone refl) d)) in (
        merge-length _ _ t ∙ k.0,
        λ i h. join-known With with-alike (spot o x) (spot o y) t r (omega (arith, k.0, spot_in o x d.from)) (omega (arith, k.0, spot_in o y d.to))
            (λ j m. k.1 j (omega (arith, k.0))) i (omega (arith, k.0)),
      )

  labels-known : Known (labels g o root)
  unfolding labels_by
  labels-known = all_keep Known known_step o (λ p k. k) own own-known

  labels-settled : Settled (labels g o root)
  unfolding labels_by
  labels-settled = all_keep Settled (λ x y _ t q. join-settled (spot o x) (spot o y) t q) o (λ p k. k) own own-settled

  abbrev label_of : ℕ → ℕ
  label_of x = get_or (labels g o root) (spot o x) 0

  with-label : (x : ℕ) → 0 < count x o → Together g o root x (get_or o (label_of x) 0)
  with-label x h = rw (spot-at o x h) at (labels-known.1 (spot o x) (spot_in o x h))

  label-together : (x y : ℕ) → 0 < count x o → 0 < count y o → label_of x ≡ label_of y → Together g o root x y
  label-together x y h k e = together-on g o root (with-label x h) (together-back g o root (rw (sym e) at (with-label y k)))

  joined-label : {x y : ℕ} → Joined g o root x y → label_of x ≡ label_of y
  unfolding labels_by
  joined-label (alone e) = ap label_of e
  joined-label (down {p = p} {y = y} j t) = joined-label j ∙ all-tie p y t o (λ q k. k) t.from own
  joined-label (up {p = p} {y = y} j t) = joined-label j ∙ sym (all-tie y p t o (λ q k. k) t.from own)

  near-label : (x : ℕ) → Near g root x → label_of x ≡ 0
  unfolding labels_by
  near-label x n = all_keep (λ t. get_or t (spot o x) 0 ≡ 0) (λ u v _ t e. join-zero (spot o u) (spot o v) t (spot o x) e) o (λ p k. k) own go
    where
      go : get_or own (spot o x) 0 ≡ 0
      go =
          let h = near-placed g o root s n in
          map_at (own_label o marks) o (spot o x) (spot_in o x h)
          ∙ rw (spot-at o x h, ne_eqb (count x marks) 0 (λ e. near-not e n))

  together-label : {x y : ℕ} → Together g o root x y → label_of x ≡ label_of y
  together-label {x} {y} (within a b) = near-label x a ∙ sym (near-label y b)
  together-label (joined j) = joined-label j

  -- ---- a label is the position of the earliest of its space

  label-first : {x y : ℕ} → Together g o root x y → label_of x ≤ spot o y
  label-first {x} {y} t = omega (arith, together-label t, labels-settled.low (spot o y))

  label-one : (x : ℕ) → 0 < count x o → (y : ℕ) × Together g o root x y × (spot o y ≡ label_of x)
  label-one x h =
      let k : label_of x < length o = omega (arith, labels-settled.low (spot o x), spot_in o x h) in
      (get_or o (label_of x) 0, with-label x h, at-spot o s.rooted.once (label_of x) k)

  -- ---- numbers

  -- two have one number exactly if they are of one space
  space-together : (x y : ℕ) → 0 < count x o → 0 < count y o → space_of g o root x ≡ space_of g o root y → Together g o root x y
  space-together x y h k e = label-together x y h k (same_number (labels g o root) labels-settled (spot o x) (spot o y) e)

  together-space : {x y : ℕ} → Together g o root x y → space_of g o root x ≡ space_of g o root y
  together-space {x} {y} t = number_same (labels g o root) labels-settled (spot o x) (spot o y) (together-label t)

  -- outside space 0 exactly if they are joined
  space-joined : (x y : ℕ) → 0 < count x o → 0 < count y o → (Near g root x → ⊥) → space_of g o root x ≡ space_of g o root y → Joined g o root x y
  space-joined x y h k n e = together-joined g o root (space-together x y h k e) n

  joined-space : {x y : ℕ} → Joined g o root x y → space_of g o root x ≡ space_of g o root y
  joined-space j = together-space (joined j)

  -- 0 is the number of space 0
  near-space : {x : ℕ} → Near g root x → space_of g o root x ≡ 0
  unfolding begun
  near-space {x} n = number_at (labels g o root) (spot o x) ∙ ap (begun (labels g o root)) (near-label x n)

  space-near : (x : ℕ) → 0 < count x o → space_of g o root x ≡ 0 → Near g root x
  space-near x h e =
      together-near g o root (space-together x root h s.rooted.root_in (e ∙ sym (near-space (first refl)))) (first refl)

  -- the space whose earliest member comes first has the lower number
  space-rises : (x y : ℕ) → label_of x < label_of y → space_of g o root x < space_of g o root y
  space-rises x y h = number-rises (labels g o root) labels-settled (spot o x) (spot o y) h

  -- and every number below a space's is another's
  space-full : (x n : ℕ) → 0 < count x o → n < space_of g o root x → (y : ℕ) × (0 < count y o) × (space_of g o root y ≡ n)
  space-full x n h k =
      let r = number-full (labels g o root) labels-settled (spot o x) n k in
      let j = r.0 in
      let m : j < length o = omega (arith, r.1, labels-settled.low (spot o x), spot_in o x h) in
      let e = at-spot o s.rooted.once j m in
      (get_or o j 0, count_at o j m, rw e r.2)

  -- ---- the numbers are those of the rules

  spaces-numbers : Numbers g o root (space_of g o root)
  spaces-numbers =
      record {
        near = λ x h. record { only = space-near x h; when = near-space };
        same = λ x y h k n. record { only = space-joined x y h k n; when = joined-space };
        full = λ x n h k. space-full x n h k;
        rises = λ x y d h k u v. let l = label-one y k in space-rises x y (omega (arith, label-first u, v l.0 l.1, l.2));
      }

-- ---- every order is sorted

pub order-sorted : (rank key : ℕ → ℕ) (g : Graph) → Ranked rank g → (nodes : List ℕ) (root : ℕ) → Rooted g nodes root → Sorted g (order_of key g nodes root) root
order-sorted rank key g y nodes root r =
    record { rooted = rooted-same r (λ c. sym (order-counts rank key g y nodes root r c)); first = order-first rank key g y nodes root r }

-- ---- the theorem: the numbers that the order by spaces goes by are those of the rules

pub distance-spaces : (g : Graph) (root : ℕ) → Acyclic g → Numbers g (distance_order g root) root (space_of g (distance_order g root) root)
unfolding distance_order order_by
distance-spaces g root y =
    spaces-numbers g (distance_order g root) root (order-sorted (λ i. i) (distance g root) g y (reached g root) root (reached-rooted g root y))

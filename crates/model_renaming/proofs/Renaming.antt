-- Ids are names: where a relation pairs off the ids of two graphs, sizes and links alike, their orders, tables and overflows are paired too.
use mathlib.Core.Path.{◌≡◌, refl, sym, ap, ap₂, ◌∙◌}
use Prim.Native.Nat.{ℕ, zero, suc, ◌+◌, ◌≤◌, ◌<◌}
use mathlib.Core.List.{List, [], ◌∷◌, ◌++◌}
use mathlib.Core.Bool.{Bool, true, false}
use native.Mathlib.Omega.{arith}
use lib.ListN.{length}
use lib.Dec.{eqb}
use borrow.Author.Tests.{eq-eqb, eqb-true}
use Rattle.lists.specs.Lists.{pick, total}
use Rattle.answer.specs.declared.Overflow.{Overflow}
use Rattle.big_endian.specs.BigEndian.{fits, capacity}
use Rattle.model_orders.specs.Bag.{one, count, without, zeros_of, last_once, leads, least}
use Rattle.model_orders.specs.Object.{Slot, Link}
use Rattle.model_orders.specs.Graph.{Graph, kids, kids_of, waits, Once}
use Rattle.model_orders.specs.Order.{order_from}
use Rattle.model_orders.specs.Distance.{In, here, there, Path, start, along, weight}
use Rattle.model_orders.specs.Table.{before, place_of, offset, unfit_links, unfit_from, unfit, filled, object_bytes, table_from, table_of}
use Rattle.model_orders.proofs.Bags.{Same, same, other, same_or, one_same, count-here, count-without, length_without, total-without, least-in}
use Rattle.model_orders.proofs.Waits.{waits-without}
use Rattle.model_orders.proofs.Orders.{Inv, next-free, next-inv, length-left}
use Rattle.model_renaming.specs.Renaming.{All2, nil, cons, SameLinks, Renames, SameField}

-- overflows paired one by one
pub data Unfits (R : ℕ → ℕ → Type 0) : List Overflow → List Overflow → Type 0 where
  none : Unfits R [] []
  more : {u v : Overflow} {us vs : List Overflow} → SameField R u v → Unfits R us vs → Unfits R (u ∷ us) (v ∷ vs)

-- pairs that are pairs of another kind
pub all2-then : {R S : ℕ → ℕ → Type 0} {l m : List ℕ} → ((a b : ℕ) → R a b → S a b) → All2 R l m → All2 S l m
all2-then f nil = nil
all2-then f (cons {a = a} {b = b} r t) = cons (f a b r) (all2-then f t)

module _ {R : ℕ → ℕ → Type 0} where
  pub all2-length : {l m : List ℕ} → All2 R l m → length l ≡ length m
  all2-length nil = refl
  all2-length (cons r t) = ap suc (all2-length t)

  pub all2-append : {l m l' m' : List ℕ} → All2 R l m → All2 R l' m' → All2 R (l ++ l') (m ++ m')
  all2-append nil b = b
  all2-append (cons r a) b = cons r (all2-append a b)

  unfits-append : {l m l' m' : List Overflow} → Unfits R l m → Unfits R l' m' → Unfits R (l ++ l') (m ++ m')
  unfits-append none b = b
  unfits-append (more p a) b = more p (unfits-append a b)

  pub same-kids : {ls ms : List Link} → SameLinks R ls ms → All2 R (kids_of ls) (kids_of ms)
  unfolding kids_of
  same-kids nil = nil
  same-kids (cons _ r s) = cons r (same-kids s)

module _ {g h : Graph} {R : ℕ → ℕ → Type 0} (n : Renames g h R) where
  -- one to one
  pub id-rel : {a a' b b' : ℕ} → R a a' → R b b' → a ≡ b → a' ≡ b'
  id-rel {a} {a'} {b} {b'} r s e = eqb-true a' b' (sym (n.ids a a' b b' r s) ∙ eq-eqb a b e)

  one-rel : {a a' b b' : ℕ} → R a a' → R b b' → one a b ≡ one a' b'
  unfolding one
  one-rel {a} {a'} {b} {b'} r s = rw (n.ids a a' b b' r s)

  pub count-rel : {a a' : ℕ} {l m : List ℕ} → R a a' → All2 R l m → count a l ≡ count a' m
  unfolding count
  count-rel r nil = refl
  count-rel r (cons s t) = omega (arith, one-rel r s, count-rel r t)

  without-rel : {x x' : ℕ} {l m : List ℕ} → R x x' → All2 R l m → All2 R (without x l) (without x' m)
  unfolding without
  without-rel r nil = nil
  without-rel {x} {x'} r (cons {a = y} {b = y'} {l = l} {m = m} s t) = rw (n.ids x x' y y' r s) (go (eqb x' y') (without-rel r t))
    where
      go : (b : Bool) → All2 R (without x l) (without x' m) → All2 R (pick b l (y ∷ without x l)) (pick b m (y' ∷ without x' m))
      go true i = t
      go false i = cons s i

  zeros-rel : (w w' : ℕ → ℕ) → ((c c' : ℕ) → R c c' → w c ≡ w' c') → {l m : List ℕ} → All2 R l m → All2 R (zeros_of w l) (zeros_of w' m)
  unfolding zeros_of
  zeros-rel w w' e nil = nil
  zeros-rel w w' e (cons {a = y} {b = y'} {l = l} {m = m} s t) = rw (e y y' s) (go (eqb (w' y') 0) (zeros-rel w w' e t))
    where
      go : (b : Bool) → All2 R (zeros_of w l) (zeros_of w' m) → All2 R (pick b (y ∷ zeros_of w l) (zeros_of w l)) (pick b (y' ∷ zeros_of w' m) (zeros_of w' m))
      go true i = cons s i
      go false i = i

  last-rel : {l m : List ℕ} → All2 R l m → All2 R (last_once l) (last_once m)
  unfolding last_once
  last-rel nil = nil
  last-rel (cons {a = y} {b = y'} {l = l} {m = m} s t) = rw (count-rel s t) (go (eqb (count y' m) 0) (last-rel t))
    where
      go : (b : Bool) → All2 R (last_once l) (last_once m) → All2 R (pick b (y ∷ last_once l) (last_once l)) (pick b (y' ∷ last_once m) (last_once m))
      go true i = cons s i
      go false i = i

  least-rel : (key key' : ℕ → ℕ) → ((c c' : ℕ) → R c c' → key c ≡ key' c') → {b b' : ℕ} {l m : List ℕ} → R b b' → All2 R l m → R (least key b l) (least key' b' m)
  unfolding least
  least-rel key key' e r nil = r
  least-rel key key' e {b} {b'} r (cons {a = y} {b = y'} {l = l} {m = m} s t) =
      rw (e y y' s, e b b' r) (go (leads key' y' b') (least-rel key key' e s t) (least-rel key key' e r t))
    where
      go : (c : Bool) → R (least key y l) (least key' y' m) → R (least key b l) (least key' b' m) → R (least key (pick c y b) l) (least key' (pick c y' b') m)
      go true i j = i
      go false i j = j

  -- one order from paired states
  module _ (key key' : ℕ → ℕ) (keys : (c c' : ℕ) → R c c' → key c ≡ key' c') where
    pub order-rel : (f f' : ℕ) (left left' : List ℕ) {ready ready' : List ℕ} → length left ≤ f → length left' ≤ f' → Inv g left ready → Inv h left' ready'
        → ((c c' : ℕ) → R c c' → waits g left c ≡ waits h left' c') → All2 R ready ready' → All2 R (order_from key g f left ready) (order_from key' h f' left' ready')
    unfolding order_from
    order-rel zero zero left left' a a' v v' w nil = nil
    order-rel zero (suc f') left left' a a' v v' w nil = nil
    order-rel (suc f) zero left left' a a' v v' w nil = nil
    order-rel (suc f) (suc f') left left' a a' v v' w nil = nil
    order-rel zero zero left left' a a' v v' w (cons s t) = absurd (length-left g left _ _ v a)
    order-rel zero (suc f') left left' a a' v v' w (cons s t) = absurd (length-left g left _ _ v a)
    order-rel (suc f) zero left left' a a' v v' w (cons s t) = absurd (length-left h left' _ _ v' a')
    order-rel (suc f) (suc f') left left' a a' v v' w (cons {a = r} {b = r'} {l = rs} {m = rs'} s t) =
        let x = least key r rs in
        let x' = least key' r' rs' in
        let rx : R (least key r rs) (least key' r' rs') = least-rel key key' keys s t in
        let k = least-in key r rs in
        let k' = least-in key' r' rs' in
        let i = (next-free g left (r ∷ rs) v x k).1 in
        let i' = (next-free h left' (r' ∷ rs') v' x' k').1 in
        let ks : All2 R (kids g (least key r rs)) (kids h (least key' r' rs')) = same-kids (n.links x x' rx) in
        let w2 : (c c' : ℕ) → R c c' → waits g (without (least key r rs) left) c ≡ waits h (without (least key' r' rs') left') c' =
        λ c c' rc. omega (arith, waits-without g x c left i, waits-without h x' c' left' i', w c c' rc, count-rel rc ks) in
        cons rx (order-rel f f' (without x left) (without x' left') (omega (arith, length_without x left i)) (omega (arith, length_without x' left' i'))
        (next-inv g left (r ∷ rs) v x k) (next-inv h left' (r' ∷ rs') v' x' k') w2
        (all2-append (without-rel rx (cons s t)) (zeros-rel (waits g (without x left)) (waits h (without x' left')) w2 (last-rel ks))))

  -- ---- paths

  weight-rel : (l m : Link) → l.slot.width ≡ m.slot.width → R l.child m.child → weight g l ≡ weight h m
  weight-rel l m e r = ap₂ ◌+◌ (n.sizes l.child m.child r) (ap capacity e)

  link-rel : (l : Link) {ls ms : List Link} → SameLinks R ls ms → In l ls → (m : Link) × In m ms × R l.child m.child × (weight g l ≡ weight h m)
  link-rel l nil i = absurd (elim i [ ])
  link-rel l (cons {l = k} {m = m} a r s) i = go i (link-rel l s)
    where
      go : {ls ms : List Link} → In l (k ∷ ls) → (In l ls → (m : Link) × In m ms × R l.child m.child × (weight g l ≡ weight h m))
          → (m' : Link) × In m' (m ∷ ms) × R l.child m'.child × (weight g l ≡ weight h m')
      go (here e) j = (m, here refl, rw e r, rw e (weight-rel k m (ap (λ (s : Slot). s.width) a) r))
      go (there i) j = let q = j i in (q.0, there q.1, q.2, q.3)

  pub path-rel : (root root' : ℕ) → R root root' → {c d : ℕ} → Path g (weight g) root c d → (c' : ℕ) × R c c' × Path h (weight h) root' c' d
  path-rel root root' r (start e z) = (root', rw e r, start refl z)
  path-rel root root' r (along {p = p} {e = v} l w i e z) =
      let q = path-rel root root' r w in
      let m = link-rel l (n.links p q.0 q.1) i in
      (m.0.child, rw e m.2, along m.0 q.2 m.1 refl (z ∙ ap (λ (k : ℕ). v + k) m.3))

  -- ---- sums over paired nodes

  pub total-rel : (f f' : ℕ → ℕ) → ((p p' : ℕ) → R p p' → f p ≡ f' p') → (l l' : List ℕ) → Once l → Once l'
      → ((p : ℕ) → 0 < count p l → (p' : ℕ) × R p p' × (0 < count p' l')) → ((p' : ℕ) → 0 < count p' l' → (p : ℕ) × R p p' × (0 < count p l))
      → total f l ≡ total f' l'
  unfolding total Once count
  total-rel f f' e [] [] o o' a b = refl
  total-rel f f' e [] (y ∷ l') o o' a b = absurd (omega (arith, (b y (count-here y l')).2))
  total-rel f f' e (x ∷ l) l' o o' a b =
      let q = a x (count-here x l) in
      let x' = q.0 in
      omega (
        arith,
        e x x' q.1,
        total-without f' x' l' q.2,
        total-rel f f' e l (without x' l') (λ c. omega (arith, o c)) (λ c. omega (arith, count-without c x' l', o' c)) (fore q) (back q),
      )
    where
      fore : (q : (p' : ℕ) × R x p' × (0 < count p' l')) → (p : ℕ) → 0 < count p l → (p' : ℕ) × R p p' × (0 < count p' (without q.0 l'))
      fore q p k =
          let s = a p (omega arith) in
          (s.0, s.1, omega (arith, count-without s.0 q.0 l', s.2, one-rel s.1 q.1, cut (same_or p x)))
        where
          cut : Same p x → one p x ≡ 0
          cut (same z _ _) = absurd (omega (arith, rw z at k, o x, one_same x))
          cut (other _ _ z) = z

      back : (q : (p' : ℕ) × R x p' × (0 < count p' l')) → (p' : ℕ) → 0 < count p' (without q.0 l') → (p : ℕ) × R p p' × (0 < count p l)
      back q p' k =
          let s = b p' (omega (arith, count-without p' q.0 l')) in
          (s.0, s.1, omega (arith, count-without p' q.0 l', s.2, one-rel s.1 q.1, o' p'))

  -- ---- places, tables and overflows

  place-rel : {o o' : List ℕ} {i i' : ℕ} → All2 R o o' → R i i' → place_of g o i ≡ place_of h o' i'
  unfolding before
  place-rel nil r = refl
  place-rel {i = i} {i' = i'} (cons {a = x} {b = x'} s t) r = rw (n.ids i i' x x' r s, n.sizes x x' s, place-rel t r)

  filled-rel : (f f' : Link → ℕ) → ((l m : Link) → l.slot.inner ≡ m.slot.inner → R l.child m.child → f l ≡ f' m) → {ls ms : List Link} → SameLinks R ls ms → (b : List ℕ) → filled f ls b ≡ filled f' ms b
  unfolding filled
  filled-rel f f' e nil b = refl
  filled-rel f f' e (cons {l = l} {m = m} a r s) b = rw (e l m (ap (λ (s : Slot). s.inner) a) r, ap (λ (s : Slot). s.at) a, ap (λ (s : Slot). s.width) a) (filled-rel f f' e s _)

  module _ (place place' : ℕ → ℕ) (places : (i i' : ℕ) → R i i' → place i ≡ place' i') where
    offset-rel : {p p' : ℕ} → R p p' → (l m : Link) → l.slot.inner ≡ m.slot.inner → R l.child m.child → offset place p l ≡ offset place' p' m
    unfolding offset
    offset-rel {p} {p'} r l m a s = rw (places l.child m.child s, places p p' r, a)

    unfit-links : {p p' : ℕ} → R p p' → {ls ms : List Link} → SameLinks R ls ms → Unfits R (unfit_links place p ls) (unfit_links place' p' ms)
    unfolding unfit_links
    unfit-links r nil = none
    unfit-links {p} {p'} r (cons {l = l} {m = m} {ls = ls} {ms = ms} a s t) = rw (offset-rel r l m (ap (λ (s : Slot). s.inner) a) s, ap (λ (s : Slot). s.at) a, ap (λ (s : Slot). s.width) a) (go (fits m.slot.width (offset place' p' m)) (unfit-links r t))
      where
        go : (b : Bool) → Unfits R (unfit_links place p ls) (unfit_links place' p' ms)
            → Unfits R (pick b (unfit_links place p ls) (record { parent = record { 0 = p }; field = m.slot.at; needed = offset place' p' m } ∷ unfit_links place p ls))
            (pick b (unfit_links place' p' ms) (record { parent = record { 0 = p' }; field = m.slot.at; needed = offset place' p' m } ∷ unfit_links place' p' ms))
        go true i = i
        go false i = more (record { parent = r; field = refl; needed = refl }) i

    unfit-from : {o o' : List ℕ} → All2 R o o' → Unfits R (unfit_from g place o) (unfit_from h place' o')
    unfolding unfit_from
    unfit-from nil = none
    unfit-from (cons {a = x} {b = x'} s t) = unfits-append (unfit-links s (n.links x x' s)) (unfit-from t)

    module _ (content content' : ℕ → List ℕ) (contents : (i i' : ℕ) → R i i' → content i ≡ content' i') where
      object-rel : {i i' : ℕ} → R i i' → object_bytes g content place i ≡ object_bytes h content' place' i'
      unfolding object_bytes
      object-rel {i} {i'} r = rw (contents i i' r) (filled-rel (offset place i) (offset place' i') (offset-rel r) (n.links i i' r) _)

      table-from : {o o' : List ℕ} → All2 R o o' → table_from g content place o ≡ table_from h content' place' o'
      unfolding table_from
      table-from nil = refl
      table-from (cons s t) = rw (object-rel s, table-from t)

  -- what does not fit is the same, but for the parents' ids
  pub unfit-rel : {o o' : List ℕ} → All2 R o o' → Unfits R (unfit g o) (unfit h o')
  unfit-rel {o} {o'} t = unfit-from (place_of g o) (place_of h o') (λ i i' r. place-rel t r) t

  -- the same bytes
  pub table-rel : (content content' : ℕ → List ℕ) → ((i i' : ℕ) → R i i' → content i ≡ content' i') → {o o' : List ℕ} → All2 R o o' → table_of g content o ≡ table_of h content' o'
  unfolding table_of
  table-rel content content' e {o} {o'} t = table-from (place_of g o) (place_of h o') (λ i i' r. place-rel t r) content content' e t

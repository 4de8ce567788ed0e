-- The slots of a list of objects: of none, with one object more, and what a look along them tells.
use mathlib.Core.Path.{◌≡◌, refl, sym, ap, subst, ◌∙◌}
use Prim.Native.Nat.{ℕ, zero, suc, ◌+◌, ◌-◌, ◌≤◌, ◌<◌}
use mathlib.Core.List.{List, [], ◌∷◌, ◌++◌}
use mathlib.Core.Bool.{Bool, true, false, false≢true}
use native.Mathlib.Decide.{ℕ_discrete, dec_le}
use native.Mathlib.Nat.{add-zero, mod-lt}
use native.Mathlib.Omega.{arith}
use borrow.Author.Tests.{eq-eqb, ne_eqb, eqb-true, lt-ltb, le-ltb}
use lib.ListN.{length, get_or, set, length-set, length-append, get_or-append}
use lib.Seq.{get_or-set_same, get_or-set_other}
use lib.Dec.{eqb}
use Rattle.std.specs.Prelude.{Option, Some, None}
use Rattle.std.specs.List.{position_or_len, position}
use Rattle.lists.specs.Lists.{pick, part, first_that}
use Rattle.lists.proofs.Runs.{part-first, length_part}
use Rattle.lists.proofs.Elements.{at_snoc, first-none, first_passes}
use Rattle.lists.proofs.Frames.{first-most}
use Rattle.model_orders.specs.Object.{Object, no_object, object_at, same_object}
use Rattle.model_orders.proofs.SameReading.{object-equal}
use Rattle.session_hash.proofs.Hashes.{same-hash}
use Rattle.session_slots.specs.Slots.{slots, probes, Placed, slot_from, slot_of, Slotted, added}

-- ---- one id more, slot by slot

module _ (at id : ℕ) (m : List ℕ) where
  pub added-free : (n : ℕ) → 0 < n → get_or m at 0 ≡ 0 → added n at id m ≡ set m at (id + 1)
  unfolding added
  added-free zero h e = absurd (omega arith)
  added-free (suc n) h e = rw (eq-eqb (get_or m at 0) 0 e)

  added-taken : (n : ℕ) → 0 < n → (get_or m at 0 ≡ 0 → ⊥) → added n at id m ≡ added (n - 1) (at + 1) id m
  unfolding added
  added-taken zero h d = absurd (omega arith)
  added-taken (suc n) h d = let e : suc n - 1 ≡ n = omega arith in rw (ne_eqb (get_or m at 0) 0 d, e)

-- the first free one of the n slots is at this place among them
abbrev free : ℕ → Bool
free x = eqb x 0

abbrev first-free : ℕ → ℕ → List ℕ → ℕ
first-free n at m = position_or_len free (part at (at + n) m)

module _ (id : ℕ) (m : List ℕ) where
  added-there : (n at : ℕ) → at + n ≤ length m → (first-free n at m < n → added n at id m ≡ set m (at + first-free n at m) (id + 1)) × (n ≤ first-free n at m → added n at id m ≡ m)
  unfolding added
  added-there zero at h = (λ k. absurd (omega arith), λ k. refl)
  added-there (suc n) at h =
      let p : at + suc n ≡ at + 1 + n = omega arith in
      let q : at < at + 1 + n = omega arith in
      let l = part (at + 1) (at + 1 + n) m in
      rw (p, part-first at (at + 1 + n) m q (omega arith)) (go (ℕ_discrete (get_or m at 0) 0) (added-there n (at + 1) (omega arith)))
    where
      go : Dec (get_or m at 0 ≡ 0) → (first-free n (at + 1) m < n → added n (at + 1) id m ≡ set m (at + 1 + first-free n (at + 1) m) (id + 1)) × (n ≤ first-free n (at + 1) m → added n (at + 1) id m ≡ m)
          → (position_or_len free (get_or m at 0 ∷ part (at + 1) (at + 1 + n) m) < suc n → added (suc n) at id m ≡ set m (at + position_or_len free (get_or m at 0 ∷ part (at + 1) (at + 1 + n) m)) (id + 1))
          × (suc n ≤ position_or_len free (get_or m at 0 ∷ part (at + 1) (at + 1 + n) m) → added (suc n) at id m ≡ m)
      go (yes e) k = rw (eq-eqb (get_or m at 0) 0 e) (λ b. ap (λ (x : ℕ). set m x (id + 1)) (sym (add-zero at)), λ b. absurd (omega arith))
      go (no d) k = rw (ne_eqb (get_or m at 0) 0 d) (λ b. k.0 (omega arith) ∙ ap (λ (x : ℕ). set m x (id + 1)) (omega arith), λ b. k.1 (omega arith))

  -- as `position` answers
  module _ (n at : ℕ) (h : at + n ≤ length m) {r : Option ℕ} (found : r ≡ position free (part at (at + n) m)) where
    whole : length (part at (at + n) m) ≡ n
    whole = length_part at (at + n) m h ∙ omega arith

    first-some : first-free n at m < n → r ≡ Some (first-free n at m)
    first-some k = found ∙ rw (lt-ltb (first-free n at m) (length (part at (at + n) m)) (omega (arith, whole)))

    first-no : n ≤ first-free n at m → r ≡ None
    first-no k = found ∙ rw (le-ltb (first-free n at m) (length (part at (at + n) m)) (omega (arith, whole)))

    pub added-found : {e : ℕ} → r ≡ Some e → added n at id m ≡ set m (at + e) (id + 1)
    added-found {e} s = go (dec_le n (first-free n at m))
      where
        go : Dec (n ≤ first-free n at m) → added n at id m ≡ set m (at + e) (id + 1)
        go (yes k) = let a = first-no k in cc
        go (no k) =
            let a = first-some (omega arith) in
            let b : first-free n at m ≡ e = cc in
            (added-there n at h).0 (omega arith) ∙ ap (λ (x : ℕ). set m (at + x) (id + 1)) b

    pub added-full : r ≡ None → added n at id m ≡ m
    added-full s = go (dec_le n (first-free n at m))
      where
        go : Dec (n ≤ first-free n at m) → added n at id m ≡ m
        go (yes k) = (added-there n at h).1 k
        go (no k) = let a = first-some (omega arith) in cc

module _ (id : ℕ) (m : List ℕ) where
  length-added : (n at : ℕ) → length (added n at id m) ≡ length m
  unfolding added
  length-added zero at = refl
  length-added (suc n) at = go (eqb (get_or m at 0) 0) (length-added n (at + 1))
    where
      go : (x : Bool) → length (added n (at + 1) id m) ≡ length m → length (pick x (set m at (id + 1)) (added n (at + 1) id m)) ≡ length m
      go true e = length-set m at (id + 1)
      go false e = e

  -- slots that are taken stay as they are
  added-kept : (n at j : ℕ) → 0 < get_or m j 0 → get_or (added n at id m) j 0 ≡ get_or m j 0
  unfolding added
  added-kept zero at j h = refl
  added-kept (suc n) at j h = go (eqb (get_or m at 0) 0) refl (added-kept n (at + 1) j h)
    where
      go : (x : Bool) → eqb (get_or m at 0) 0 ≡ x → get_or (added n (at + 1) id m) j 0 ≡ get_or m j 0 → get_or (pick x (set m at (id + 1)) (added n (at + 1) id m)) j 0 ≡ get_or m j 0
      go true e k =
          let z = eqb-true (get_or m at 0) 0 e in
          let d : j ≡ at → ⊥ = λ p. let q : get_or m j 0 ≡ 0 = ap (λ i. get_or m i 0) p ∙ z in omega (arith, q, h) in
          simp (get_or-set_other, d)
      go false e k = k

module _ (id : ℕ) (m : List ℕ) where
  -- behind a slot that is taken
  placed-next : (n at : ℕ) → 0 < get_or m at 0 → Placed n m (at + 1) id → Placed (suc n) m at id
  placed-next n at h k =
      record {
        steps = k.steps + 1;
        most = omega (arith, k.most);
        taken = λ e d. go e d (ℕ_discrete e 0);
        held = λ d. let p : at + (k.steps + 1) ≡ at + 1 + k.steps = omega arith in rw p (k.held (omega arith));
      }
    where
      go : (e : ℕ) → e < k.steps + 1 → Dec (e ≡ 0) → 0 < get_or m (at + e) 0
      go e d (yes p) = rw (p, add-zero at) h
      go e d (no q) = let p : at + e ≡ at + 1 + (e - 1) = omega arith in rw p (k.taken (e - 1) (omega arith))

module _ (id : ℕ) (m : List ℕ) where
  added-placed : (n at : ℕ) → at + n ≤ length m → Placed n (added n at id m) at id
  added-placed zero at h = record { steps = 0; most = omega arith; taken = λ e d. absurd (omega arith); held = λ d. absurd (omega arith) }
  added-placed (suc n) at h = go (ℕ_discrete (get_or m at 0) 0) (added-placed n (at + 1) (omega arith))
    where
      go : Dec (get_or m at 0 ≡ 0) → Placed n (added n (at + 1) id m) (at + 1) id → Placed (suc n) (added (suc n) at id m) at id
      go (yes e) k =
          subst (λ l. Placed (suc n) l at id) (sym (added-free at id m (suc n) (omega arith) e))
          (record {
            steps = 0;
            most = omega arith;
            taken = λ e d. absurd (omega arith);
            held = λ d. rw (add-zero at) (get_or-set_same m at (id + 1) 0 (omega arith));
          })
      go (no d) k =
          let p : suc n - 1 ≡ n = omega arith in
          let q : 0 < get_or m at 0 = omega arith in
          subst (λ l. Placed (suc n) l at id) (sym (rw p at (added-taken at id m (suc n) (omega arith) d)))
          (placed-next id (added n (at + 1) id m) n at (omega (arith, added-kept id m n (at + 1) at q, q)) k)

-- ---- the slots of a list of objects

pub slotted-none : (m : List ℕ) → length m ≡ slots + probes → Slotted [] m
slotted-none m h = record { long = h; placed = λ i d. absurd (omega arith); single = λ i j d k. absurd (omega arith) }

module _ (m : List ℕ) (n at id : ℕ) where
  placed-kept : {most a i : ℕ} → Placed most m a i → Placed most (added n at id m) a i
  placed-kept {most} {a} {i} k =
      record {
        steps = k.steps;
        most = k.most;
        taken = λ e d. let p = k.taken e d in omega (arith, added-kept id m n at (a + e) p, p);
        held = λ d. let p = k.held d in added-kept id m n at (a + k.steps) (omega (arith, p)) ∙ p;
      }

module _ {os : List Object} {m : List ℕ} (k : Slotted os m) (o : Object) where
  abbrev grown : List Object
  grown = os ++ (o ∷ [])

  abbrev m' : List ℕ
  m' = added probes (slot_of o) (length os) m

  inside : slot_of o < slots
  unfolding slot_from
  inside = mod-lt _ (omega arith)

  -- the new one
  placed-new : Placed probes m' (slot_of o) (length os)
  placed-new = added-placed (length os) m probes (slot_of o) (omega (arith, inside, k.long))

  -- one object more, which equals none of them
  pub slotted-more : length os ≤ first_that (same_object o) os → Slotted grown m'
  slotted-more new =
      record {
        long = length-added (length os) m probes (slot_of o) ∙ k.long;
        placed = at_snoc (λ i p. i < length grown → Placed probes m' (slot_of p) i) os o no_object (λ i d h. placed-kept m probes (slot_of o) (length os) (k.placed i (omega (arith, more)))) (λ h. placed-new);
        single = λ i j d h.
            at_snoc (λ j p. i < j → j < length grown → same_object p (object_at grown i) ≡ false) os o no_object
            (λ j q d h. rw (get_or-append os (o ∷ []) no_object i (omega (arith, more))) (k.single i j d (omega (arith, more))))
            (λ d h. rw (get_or-append os (o ∷ []) no_object i d) (first-none (same_object o) os no_object i (omega arith))) j d h;
      }
    where
      more : length grown ≡ length os + 1
      more = length-append os (o ∷ [])

-- ---- a look for an object that equals o, from its slot on

-- the first e slots hold no id of such a one
pub record Passed (os : List Object) (m : List ℕ) (o : Object) (e : ℕ) : Type 0 where
  pub others : (d i : ℕ) → d < e → i < length os → get_or m (slot_of o + d) 0 ≡ i + 1 → same_object o (object_at os i) ≡ false

module _ {os : List Object} {m : List ℕ} (k : Slotted os m) (o : Object) where
  abbrev first : ℕ
  first = first_that (same_object o) os

  -- an id whose object equals it is the lowest one
  pub slot-equal : (i : ℕ) → i < length os → same_object o (object_at os i) ≡ true → i ≡ first
  slot-equal i h e = go (dec_le first i) (dec_le i first)
    where
      go : Dec (first ≤ i) → Dec (i ≤ first) → i ≡ first
      go (no a) _ = absurd (false≢true (sym (first-none (same_object o) os no_object i (omega arith)) ∙ e))
      go (yes a) (yes b) = omega arith
      go (yes a) (no b) =
          let p = first_passes (same_object o) os no_object (omega arith) in
          let q = k.single first i (omega arith) h in
          absurd (false≢true (sym q ∙ ap (λ (x : Object). same_object x (object_at os first)) (sym (object-equal o (object_at os i) e)) ∙ p))

  -- a free slot behind such slots: none equals it
  pub slot-free : (e : ℕ) → e < probes → Passed os m o e → get_or m (slot_of o + e) 0 ≡ 0 → length os ≡ first
  slot-free e h x z = go (dec_le (length os) first)
    where
      met : first < length os → Placed probes m (slot_of o) first → ⊥
      met d p = at (dec_le p.steps e) (ℕ_discrete p.steps e)
        where
          at : Dec (p.steps ≤ e) → Dec (p.steps ≡ e) → ⊥
          at (no a) _ = omega (arith, p.taken e (omega arith), z)
          at (yes a) (yes b) = let q : get_or m (slot_of o + e) 0 ≡ first + 1 = rw b at (p.held (omega arith)) in omega (arith, q, z)
          at (yes a) (no b) = false≢true (sym (x.others p.steps first (omega arith) d (p.held (omega arith))) ∙ first_passes (same_object o) os no_object d)

      go : Dec (length os ≤ first) → length os ≡ first
      go (yes a) = omega (arith, first-most (same_object o) os)
      go (no a) =
          let d : first < length os = omega arith in
          let q = first_passes (same_object o) os no_object d in
          absurd (met d (subst (λ y. Placed probes m y first) (ap slot_from (sym (same-hash o (object_at os first) q))) (k.placed first d)))

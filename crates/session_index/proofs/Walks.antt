-- The look along the chain of the open object's bucket: objects of other buckets are others.
use mathlib.Core.Path.{◌≡◌, refl, sym, ap, ◌∙◌}
use Prim.Native.Nat.{ℕ, zero, suc, ◌+◌, ◌-◌, ◌≤◌, ◌<◌}
use mathlib.Core.List.{List}
use mathlib.Core.Bool.{Bool, true, false}
use native.Mathlib.Nat.{add-zero, mod-lt}
use native.Mathlib.Omega.{arith}
use borrow.Author.Tests.{ne_eqb}
use lib.ListN.{length, get_or}
use lib.Dec.{eqb}
use Rattle.lists.specs.Lists.{pick}
use Rattle.model_orders.specs.Object.{Object, same_object}
use Rattle.layout.specs.Words.{closed_count}
use Rattle.layout.specs.Decode.{closed_at, closed_to}
use Rattle.steps.specs.Steps.{innermost_in, twin_in}
use Rattle.steps.proofs.Tallies.{length-closed, closed-at}
use Rattle.session_find.proofs.Looks.{Look, look-first, look_none, look-here, look-next}
use Rattle.session_hash.specs.Hash.{hash_of, bucket_of}
use Rattle.session_chains.specs.Index.{head_at, next_at, hash_at, Leads, none, to, key_in, Indexed}
use Rattle.session_hash.proofs.Hashes.{same-hash}

-- an object of another hash is another
pub other-hash : (o p : Object) → (hash_of p ≡ hash_of o → ⊥) → same_object o p ≡ false
other-hash o p d = go (same_object o p) refl
  where
    go : (x : Bool) → same_object o p ≡ x → x ≡ false
    go true e = absurd (d (sym (same-hash o p e)))
    go false e = refl

-- how many ids may still come
abbrev pub left : ℕ → ℕ → ℕ
left c x = pick (eqb x 0) 0 (c + 1 - x)

module _ (b w : List ℕ) (buckets : ℕ) where
  abbrev c : ℕ
  c = closed_count w

  abbrev key : ℕ → ℕ
  key = key_in buckets (closed_to b w c)

  abbrev own : ℕ
  own = bucket_of buckets (hash_of (innermost_in b w))

  other_key : (j : ℕ) → j < c → (key j ≡ own → ⊥) → same_object (innermost_in b w) (closed_at b w j) ≡ false
  other_key j h d =
      other-hash (innermost_in b w) (closed_at b w j) (λ e. d (ap (bucket_of buckets) (ap hash_of (closed-at b w c j h) ∙ e)))

  -- n ids of other keys
  skip : (n i : ℕ) → Look b w c i → i + n ≤ c → ((j : ℕ) → i ≤ j → j < i + n → key j ≡ own → ⊥) → Look b w c (i + n)
  skip zero i l h d = rw (add-zero i) l
  skip (suc n) i l h d =
      let e : i + suc n ≡ i + 1 + n = omega arith in
      rw e (skip n (i + 1) (look-next l (omega arith) (other_key i (omega arith) (d i (omega arith) (omega arith)))) (omega arith) (λ j a k. d j (omega arith) (omega arith)))

  skip-to : (n i : ℕ) → Look b w c i → i ≤ n → n ≤ c → ((j : ℕ) → i ≤ j → j < n → key j ≡ own → ⊥) → Look b w c n
  skip-to n i l h k d =
      let e : i + (n - i) ≡ n = omega arith in
      rw e at (skip (n - i) i l (omega arith) (λ j a q. d j a (omega arith)))

  -- the ids before `from` are looked at, and x leads to the next one of the chain
  pub record Walk (x : ℕ) : Type 0 where
    pub from : ℕ
    pub look : Look b w c from
    pub leads : Leads key c own from x

  -- the id that x leads to
  record Here (x : ℕ) : Type 0 where
    inside : x ≤ c
    look : Look b w c (x - 1)
    key_is : key (x - 1) ≡ own

  here : {x : ℕ} → Walk x → 0 < x → Here x
  here {x} s h = go s.leads
    where
      go : Leads key c own s.from x → Here x
      go (none e d) = absurd (omega arith)
      go (to y e a k q d) =
          let n : y ≡ x - 1 = omega arith in
          record { inside = omega arith; look = rw n at (skip-to y s.from s.look a (omega arith) d); key_is = rw n at q }

  pub walk_none : {x : ℕ} → Walk x → x ≤ 0 → c ≡ twin_in b w
  walk_none {x} s h = go s.leads
    where
      go : Leads key c own s.from x → c ≡ twin_in b w
      go (none e d) = look_none (skip-to c s.from s.look s.look.within (omega arith) d) (omega arith)
      go (to y e a k q d) = absurd (omega arith)

  module _ {x : ℕ} (s : Walk x) (h : 0 < x) where
    pub walk_inside : x - 1 < c
    walk_inside = omega (arith, (here s h).inside)

    pub walk_here : same_object (innermost_in b w) (closed_at b w (x - 1)) ≡ true → x - 1 ≡ twin_in b w
    walk_here e = look-here (here s h).look walk_inside e

    module _ {m : List ℕ} (k : Indexed (closed_to b w c) buckets m) where
      next-leads : Leads key c (key (x - 1)) x (get_or m (next_at buckets (x - 1)) 0)
      next-leads =
          let n = length-closed b w c in
          let e : x - 1 + 1 ≡ x = omega arith in
          rw (e, n) at (k.chained.nexts (x - 1) (omega (arith, walk_inside)))

      pub walk-next : same_object (innermost_in b w) (closed_at b w (x - 1)) ≡ false → Walk (get_or m (next_at buckets (x - 1)) 0)
      walk-next d =
          let e : x - 1 + 1 ≡ x = omega arith in
          record { from = x; look = rw e at (look-next (here s h).look walk_inside d); leads = rw (here s h).key_is at next-leads }

      pub walk-less : left c (get_or m (next_at buckets (x - 1)) 0) < left c x
      walk-less = go next-leads
        where
          n : left c x ≡ c + 1 - x
          n = let d : x ≡ 0 → ⊥ = omega arith in rw (ne_eqb x 0 d)

          go : Leads key c (key (x - 1)) x (get_or m (next_at buckets (x - 1)) 0) → left c (get_or m (next_at buckets (x - 1)) 0) < left c x
          go (none e d) = rw (n, e) (omega (arith, walk_inside))
          go (to y e a p q d) = let f : y + 1 ≡ 0 → ⊥ = omega arith in rw (n, e, ne_eqb (y + 1) 0 f) (omega (arith, walk_inside))

      -- what the words of the id are, and where
      pub walk-hash : get_or m (hash_at buckets (x - 1)) 0 ≡ hash_of (closed_at b w (x - 1))
      walk-hash =
          let n = length-closed b w c in
          k.hashed (x - 1) (omega (arith, walk_inside)) ∙ ap hash_of (closed-at b w c (x - 1) walk_inside)

      pub walk-room : hash_at buckets (x - 1) < length m
      walk-room = let n = length-closed b w c in omega (arith, walk_inside, k.fits)

  pub walk_first : {m : List ℕ} → Indexed (closed_to b w c) buckets m → Walk (get_or m (head_at own) 0)
  walk_first k =
      let n = length-closed b w c in
      record { from = 0; look = look-first refl; leads = rw n at (k.chained.heads own (mod-lt _ k.some)) }

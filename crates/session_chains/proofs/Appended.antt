-- One id more at the end of its chain.
use mathlib.Core.Path.{◌≡◌, sym, ◌∙◌}
use Prim.Native.Nat.{ℕ, ◌+◌, ◌*◌, ◌≤◌, ◌<◌}
use mathlib.Core.List.{List}
use native.Mathlib.Decide.{ℕ_discrete, dec_le}
use native.Mathlib.Nat.{mod-lt}
use native.Mathlib.Omega.{arith}
use borrow.Author.Tests.{eq-eqb, ne_eqb}
use lib.ListN.{length, get_or, set, length-set}
use lib.Seq.{lt-length-set, get_or-set_same, get_or-set_other}
use Rattle.session_hash.specs.Hash.{bucket_of}
use Rattle.session_chains.specs.Index.{head_at, tail_at, next_at, hash_at, index_need, Leads, none, to, Ends, empty, at, Chained, leader_at, added, Room}

-- ---- four stores

-- m' is m with x at p and q, 0 at r and h behind it
record Stored (p q r x h : ℕ) (m m' : List ℕ) : Type 0 where
  long : length m' ≡ length m
  first : get_or m' p 0 ≡ x
  second : get_or m' q 0 ≡ x
  third : get_or m' r 0 ≡ 0
  fourth : get_or m' (r + 1) 0 ≡ h
  others : (j : ℕ) → (j ≡ p → ⊥) → (j ≡ q → ⊥) → (j ≡ r → ⊥) → (j ≡ r + 1 → ⊥) → get_or m' j 0 ≡ get_or m j 0

stored : (p q r x h : ℕ) (m : List ℕ) → p < r → q < r → r + 1 < length m → (p ≡ q → ⊥) → Stored p q r x h m (set (set (set (set m p x) q x) r 0) (r + 1) h)
stored p q r x h m a b c d =
    let e : p ≡ r → ⊥ = omega arith in
    let f : p ≡ r + 1 → ⊥ = omega arith in
    let g : q ≡ r → ⊥ = omega arith in
    let k : q ≡ r + 1 → ⊥ = omega arith in
    let n : r ≡ r + 1 → ⊥ = omega arith in
    let pl : p < length m = omega arith in
    let ql : q < length m = omega arith in
    let rl : r < length m = omega arith in
    record {
      long = simp length-set;
      first = simp (get_or-set_other, get_or-set_same);
      second = simp (get_or-set_other, get_or-set_same, lt-length-set);
      third = simp (get_or-set_other, get_or-set_same, lt-length-set);
      fourth = simp (get_or-set_same, lt-length-set);
      others = λ j u v s t. simp (get_or-set_other, u, v, s, t);
    }

-- ---- chains with one id more

module _ {key : ℕ → ℕ} {c k : ℕ} where
  none_more : {i : ℕ} → ((j : ℕ) → i ≤ j → j < c → key j ≡ k → ⊥) → (key c ≡ k → ⊥) → (j : ℕ) → i ≤ j → j < c + 1 → key j ≡ k → ⊥
  none_more {i} h d j a b q = go (ℕ_discrete j c)
    where
      go : Dec (j ≡ c) → ⊥
      go (yes e) = d (rw e at q)
      go (no n) = h j a (omega arith) q

  -- of another key
  leads-other : {i x : ℕ} → Leads key c k i x → (key c ≡ k → ⊥) → Leads key (c + 1) k i x
  leads-other (none e h) d = none e (none_more h d)
  leads-other (to y e a b q h) d = to y e a (omega arith) q h

  ends-other : {x : ℕ} → Ends key c k x → (key c ≡ k → ⊥) → Ends key (c + 1) k x
  ends-other (empty e h) d = empty e (λ j b q. none_more {i = 0} (λ j a. h j) d j (omega arith) b q)
  ends-other (at y e b q h) d = at y e (omega arith) q (λ j a b p. none_more {i = y + 1} (λ j a. h j (omega arith)) d j (omega arith) b p)

  -- where the chain goes on to an id already
  leads-on : {i x : ℕ} → Leads key c k i x → (y : ℕ) → i ≤ y → y < c → key y ≡ k → Leads key (c + 1) k i x
  leads-on (none e h) y a b q = absurd (h y a b q)
  leads-on (to z e a b q h) y _ _ _ = to z e a (omega arith) q h

module _ {key : ℕ → ℕ} {c buckets : ℕ} {m : List ℕ} (s : Chained key c buckets m) (k : ℕ) (k_is : key c ≡ k) (inside : k < buckets) {p h : ℕ} {m' : List ℕ}
    (st : Stored p (tail_at k) (next_at buckets c) (c + 1) h m m') where
  tails-more : (j : ℕ) → j < buckets → (tail_at j ≡ p → ⊥) → Ends key (c + 1) j (get_or m' (tail_at j) 0)
  tails-more j b d = go (ℕ_discrete j k)
    where
      go : Dec (j ≡ k) → Ends key (c + 1) j (get_or m' (tail_at j) 0)
      go (yes e) = rw e (at c st.second (omega arith) k_is (λ i a b q. omega arith))
      go (no n) = rw (st.others (tail_at j) d (omega arith) (omega arith) (omega arith)) (ends-other (s.tails j b) (λ q. n (sym q ∙ k_is)))

  heads-other : (j : ℕ) → j < buckets → (j ≡ k → ⊥) → (head_at j ≡ p → ⊥) → Leads key (c + 1) j 0 (get_or m' (head_at j) 0)
  heads-other j b n d = rw (st.others (head_at j) d (omega arith) (omega arith) (omega arith)) (leads-other (s.heads j b) (λ q. n (sym q ∙ k_is)))

  next-kept : (i : ℕ) → i < c → (next_at buckets i ≡ p → ⊥) → get_or m' (next_at buckets i) 0 ≡ get_or m (next_at buckets i) 0
  next-kept i b d = st.others (next_at buckets i) d (omega arith) (omega arith) (omega arith)

  next-other : (i : ℕ) → i < c → (next_at buckets i ≡ p → ⊥) → (key i ≡ k → ⊥) → Leads key (c + 1) (key i) (i + 1) (get_or m' (next_at buckets i) 0)
  next-other i b d n = rw (next-kept i b d) (leads-other (s.nexts i b) (λ q. n (sym q ∙ k_is)))

  nexts-more : ((i : ℕ) → i < c → Leads key (c + 1) (key i) (i + 1) (get_or m' (next_at buckets i) 0)) → (i : ℕ) → i < c + 1 → Leads key (c + 1) (key i) (i + 1) (get_or m' (next_at buckets i) 0)
  nexts-more below i b = go (ℕ_discrete i c)
    where
      go : Dec (i ≡ c) → Leads key (c + 1) (key i) (i + 1) (get_or m' (next_at buckets i) 0)
      go (yes e) = rw e (none st.third (λ j a b q. omega arith))
      go (no n) = below i (omega arith)

-- the first of its chain
module _ {key : ℕ → ℕ} {c buckets : ℕ} {m : List ℕ} (s : Chained key c buckets m) (k : ℕ) (k_is : key c ≡ k) (inside : k < buckets) {h : ℕ} {m' : List ℕ} where
  chained-first : ((j : ℕ) → j < c → key j ≡ k → ⊥) → Stored (head_at k) (tail_at k) (next_at buckets c) (c + 1) h m m' → Chained key (c + 1) buckets m'
  chained-first fresh st =
      record {
        heads = λ j b. head j b (ℕ_discrete j k);
        tails = λ j b. tails-more s k k_is inside st j b (omega arith);
        nexts = nexts-more s k k_is inside st (λ i b. next-other s k k_is inside st i b (omega arith) (fresh i b));
      }
    where
      head : (j : ℕ) → j < buckets → Dec (j ≡ k) → Leads key (c + 1) j 0 (get_or m' (head_at j) 0)
      head j b (yes e) = rw e (to c st.first (omega arith) (omega arith) k_is (λ i a b q. fresh i b q))
      head j b (no n) = heads-other s k k_is inside st j b n (omega arith)

  -- behind the last of its chain
  chained-behind : (y : ℕ) → y < c → key y ≡ k → ((j : ℕ) → y < j → j < c → key j ≡ k → ⊥)
      → Stored (next_at buckets y) (tail_at k) (next_at buckets c) (c + 1) h m m' → Chained key (c + 1) buckets m'
  chained-behind y yb yk last st =
      record {
        heads = λ j b. head j b (ℕ_discrete j k);
        tails = λ j b. tails-more s k k_is inside st j b (omega arith);
        nexts = nexts-more s k k_is inside st (λ i b. next i b (ℕ_discrete (key i) k) (ℕ_discrete i y) (dec_le i y));
      }
    where
      head : (j : ℕ) → j < buckets → Dec (j ≡ k) → Leads key (c + 1) j 0 (get_or m' (head_at j) 0)
      head j b (yes e) = rw (e, st.others (head_at k) (omega arith) (omega arith) (omega arith) (omega arith)) (leads-on (s.heads k inside) y (omega arith) yb yk)
      head j b (no n) = heads-other s k k_is inside st j b n (omega arith)

      next : (i : ℕ) → i < c → Dec (key i ≡ k) → Dec (i ≡ y) → Dec (i ≤ y) → Leads key (c + 1) (key i) (i + 1) (get_or m' (next_at buckets i) 0)
      next i b (no n) _ _ = next-other s k k_is inside st i b (λ e. n (let q : i ≡ y = omega arith in rw q yk)) n
      next i b (yes f) (yes e) _ = to c (rw e st.first) (omega arith) (omega arith) (k_is ∙ sym f) (λ j a d q. last j (omega arith) d (q ∙ f))
      next i b (yes f) (no n) (yes a) = rw (next-kept s k k_is inside st i b (omega arith)) (leads-on (s.nexts i b) y (omega arith) yb (yk ∙ sym f))
      next i b (yes f) (no n) (no a) = absurd (last i (omega arith) b f)

-- ---- the id is added

module _ (key : ℕ → ℕ) (c buckets h : ℕ) (m : List ℕ) (s : Chained key c buckets m) (some : 0 < buckets) (k_is : key c ≡ bucket_of buckets h) (room : index_need buckets (c + 1) ≤ length m) where
  abbrev k : ℕ
  k = bucket_of buckets h

  inside : k < buckets
  inside = mod-lt _ some

  abbrev last : ℕ
  last = get_or m (tail_at k) 0

  pub record Adds : Type 0 where
    pub long : length (added buckets h c m) ≡ length m
    pub chained : Chained key (c + 1) buckets (added buckets h c m)
    pub hash_is : get_or (added buckets h c m) (hash_at buckets c) 0 ≡ h
    pub hash_kept : (i : ℕ) → i < c → get_or (added buckets h c m) (hash_at buckets i) 0 ≡ get_or m (hash_at buckets i) 0

  stores : (p : ℕ) → leader_at buckets k last ≡ p → p < next_at buckets c → (p ≡ tail_at k → ⊥) → Stored p (tail_at k) (next_at buckets c) (c + 1) h m (added buckets h c m)
  unfolding added
  stores p e b d = rw e (stored p (tail_at k) (next_at buckets c) (c + 1) h m b (omega (arith, inside)) (omega arith) d)

  adds : (p : ℕ) → Stored p (tail_at k) (next_at buckets c) (c + 1) h m (added buckets h c m) → ((i : ℕ) → hash_at buckets i ≡ p → ⊥)
      → Chained key (c + 1) buckets (added buckets h c m) → Adds
  adds p st d ch =
      record {
        long = st.long;
        chained = ch;
        hash_is = st.fourth;
        hash_kept = λ i b. st.others (hash_at buckets i) (d i) (omega (arith, inside)) (omega arith) (omega arith);
      }

  pub chained-added : Adds
  chained-added = go (s.tails k inside)
    where
      go : Ends key c k last → Adds
      go (empty e fresh) =
          let n = inside in
          let st = stores (head_at k) (rw (eq-eqb last 0 e)) (omega arith) (omega arith) in
          adds (head_at k) st (λ i q. omega arith) (chained-first s k k_is inside fresh st)
      go (at y e b q behind) =
          let n = inside in
          let d : last ≡ 0 → ⊥ = omega arith in
          let st = stores (next_at buckets y) (rw (ne_eqb last 0 d) (omega arith)) (omega arith) (omega arith) in
          adds (next_at buckets y) st (λ i q. omega arith) (chained-behind s k k_is inside y b q behind st)

  -- what adding asks
  pub chained-room : Room buckets h c m
  chained-room = record { some = some; room = room; last = go (s.tails k inside) }
    where
      go : Ends key c k (get_or m (tail_at k) 0) → get_or m (tail_at k) 0 ≤ c
      go (empty e fresh) = omega arith
      go (at y e b q last) = omega arith

-- the word that leads to the last of the chain
pub room-last : {buckets h id k : ℕ} {m : List ℕ} → Room buckets h id m → k ≡ bucket_of buckets h → get_or m (k * 2 + 1) 0 ≤ id
room-last r e = rw e r.last

pub length-added : (buckets h id : ℕ) (m : List ℕ) → length (added buckets h id m) ≡ length m
unfolding added
length-added buckets h id m = simp length-set

-- The index of a list of objects: of none, and with one object more.
use mathlib.Core.Path.{◌≡◌, refl, sym, ap, ◌∙◌}
use Prim.Native.Nat.{ℕ, ◌+◌, ◌*◌, ◌≤◌, ◌<◌}
use mathlib.Core.List.{List, [], ◌∷◌, ◌++◌}
use native.Mathlib.Decide.{ℕ_discrete}
use native.Mathlib.Omega.{arith}
use lib.ListN.{length, get_or, length-append, get_or-append}
use lib.Seq.{get_or_at}
use Rattle.model_orders.specs.Object.{Object, no_object, object_at}
use Rattle.session_hash.specs.Hash.{hash_of, bucket_of}
use Rattle.session_chains.specs.Index.{head_at, tail_at, hash_at, index_need, Leads, none, to, Ends, empty, at, Chained, key_in, Indexed, added, Room}
use Rattle.session_chains.proofs.Appended.{Adds, chained-added, chained-room}

-- ---- chains by keys that agree below the count

module _ {key key' : ℕ → ℕ} {c : ℕ} (same : (i : ℕ) → i < c → key' i ≡ key i) where
  leads-same : {k i x : ℕ} → Leads key c k i x → Leads key' c k i x
  leads-same (none e h) = none e (λ j a b q. h j a b (sym (same j b) ∙ q))
  leads-same (to y e a b q h) = to y e a b (same y b ∙ q) (λ j d f p. h j d f (sym (same j (omega arith)) ∙ p))

  ends_same : {k x : ℕ} → Ends key c k x → Ends key' c k x
  ends_same (empty e h) = empty e (λ j b q. h j b (sym (same j b) ∙ q))
  ends_same (at y e b q h) = at y e b (same y b ∙ q) (λ j d f p. h j d f (sym (same j f) ∙ p))

  chained_same : {buckets : ℕ} {m : List ℕ} → Chained key c buckets m → Chained key' c buckets m
  chained_same s =
      record {
        heads = λ k b. leads-same (s.heads k b);
        tails = λ k b. ends_same (s.tails k b);
        nexts = λ i b. rw (same i b) (leads-same (s.nexts i b));
      }

-- ---- one object more

module _ (os : List Object) (o : Object) where
  before : (i : ℕ) → i < length os → object_at (os ++ (o ∷ [])) i ≡ object_at os i
  before i b = get_or-append os (o ∷ []) no_object i b

  behind : object_at (os ++ (o ∷ [])) (length os) ≡ o
  behind = get_or_at os o [] no_object (length os) refl

  more : length (os ++ (o ∷ [])) ≡ length os + 1
  more = length-append os (o ∷ [])

module _ {os : List Object} {buckets : ℕ} {m : List ℕ} (s : Indexed os buckets m) (o : Object) (room : index_need buckets (length os + 1) ≤ length m) where
  abbrev grown : List Object
  grown = os ++ (o ∷ [])

  chains : Chained (key_in buckets grown) (length os) buckets m
  chains = chained_same (λ i b. ap (λ (p : Object). bucket_of buckets (hash_of p)) (before os o i b)) s.chained

  last-key : key_in buckets grown (length os) ≡ bucket_of buckets (hash_of o)
  last-key = ap (λ (p : Object). bucket_of buckets (hash_of p)) (behind os o)

  pub indexed-room : Room buckets (hash_of o) (length os) m
  indexed-room = chained-room (key_in buckets grown) (length os) buckets (hash_of o) m chains s.some last-key room

  pub indexed-more : Indexed grown buckets (added buckets (hash_of o) (length os) m)
  indexed-more =
      let a = chained-added (key_in buckets grown) (length os) buckets (hash_of o) m chains s.some last-key room in
      let n = more os o in
      record {
        some = s.some;
        fits = omega (arith, a.long);
        chained = rw n a.chained;
        hashed = λ i b. hash a i b (ℕ_discrete i (length os));
      }
    where
      hash : Adds (key_in buckets grown) (length os) buckets (hash_of o) m chains s.some last-key room → (i : ℕ) → i < length grown → Dec (i ≡ length os)
          → get_or (added buckets (hash_of o) (length os) m) (hash_at buckets i) 0 ≡ hash_of (object_at grown i)
      hash a i b (yes e) = rw e (a.hash_is ∙ ap hash_of (sym (behind os o)))
      hash a i b (no n) =
          let d : i < length os = omega (arith, more os o) in
          a.hash_kept i d ∙ s.hashed i d ∙ ap hash_of (sym (before os o i d))

-- ---- no object

pub indexed-none : (buckets : ℕ) (m : List ℕ) → 0 < buckets → index_need buckets 0 ≤ length m → ((j : ℕ) → j < buckets * 2 → get_or m j 0 ≡ 0) → Indexed [] buckets m
indexed-none buckets m some fits clear =
    record {
      some = some;
      fits = fits;
      chained =
          record {
            heads = λ k b. none (clear (head_at k) (omega arith)) (λ j a d q. omega arith);
            tails = λ k b. empty (clear (tail_at k) (omega arith)) (λ j a q. omega arith);
            nexts = λ i b. absurd (omega arith);
          };
      hashed = λ i b. absurd (omega arith);
    }
